-- The addresses of neighbours, and how many count at each.
use Rattle.std.specs.Prelude.{ℕ, ℤ, pos, Bool, true, false, ◌&&◌, nat_eq, List, Option}
use Rattle.std.specs.Cmp.Lexicographic.{pointwise}
use Rattle.std.specs.Map.{lookup, set_value, values_of}
use Rattle.std.specs.List.{sum_by}
use Rattle.std.specs.Option.{option_map_or, unwrap_or}
use Rattle.gs_base.specs.declared.names.PeerNo.{PeerNo}
use Rattle.gs_base.specs.declared.neighbour.Neighbour.{Neighbour}
use Rattle.gs_base.specs.Names.{same_peer}
use Rattle.gs_score.specs.declared.addresses.AddressEntry.{AddressEntry}

abbrev pub same_address : List ℕ → List ℕ → Bool
same_address a b = pointwise nat_eq a b

-- ---- one neighbour

-- it counts at its address at first
abbrev pub address_entry_of : Neighbour → PeerNo × AddressEntry
address_entry_of n = (n.peer, record { app = n.app; address = n.address; counted = true })

abbrev pub address_entry_at : List (PeerNo × AddressEntry) → PeerNo → Option AddressEntry
address_entry_at addresses p = lookup (same_peer p) addresses

-- the score that the application gives it
abbrev pub app_of : List (PeerNo × AddressEntry) → PeerNo → ℤ
app_of addresses p = option_map_or (λ (x : AddressEntry). x.app) (address_entry_at addresses p) (pos 0)

abbrev pub is_counted : List (PeerNo × AddressEntry) → PeerNo → Bool
is_counted addresses p = option_map_or (λ (x : AddressEntry). x.counted) (address_entry_at addresses p) false

-- it no longer counts
abbrev pub shut : AddressEntry → AddressEntry
shut x = record x { counted = false }

abbrev pub shut_out : PeerNo → List (PeerNo × AddressEntry) → List (PeerNo × AddressEntry)
shut_out p addresses =
    option_map_or (λ x. set_value (same_peer p) addresses (shut x)) (address_entry_at addresses p) addresses

-- ---- an address

abbrev pub one_if : Bool → ℕ
one_if true = 1
one_if false = 0

abbrev pub counts_at : List ℕ → AddressEntry → Bool
counts_at address x = x.counted && same_address x.address address

-- how many neighbours count at an address
abbrev pub number_at : List (PeerNo × AddressEntry) → List ℕ → ℕ
number_at addresses address = sum_by (λ x. one_if (counts_at address x)) (values_of addresses)

-- how many count at a neighbour's address
abbrev pub number_with : List (PeerNo × AddressEntry) → PeerNo → ℕ
number_with addresses p =
    option_map_or (λ (x : AddressEntry). number_at addresses x.address) (address_entry_at addresses p) 0

-- the number that is stored for an address
abbrev pub kept_number : List (List ℕ × ℕ) → List ℕ → ℕ
kept_number numbers address = unwrap_or (lookup (same_address address) numbers) 0
