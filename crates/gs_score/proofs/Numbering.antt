-- How many neighbours count at each address, after one more does or one less.
use Rattle.std.proofs.Common.{◌≡◌, ℕ, ◌+◌, ◌-◌, Bool, true, false, cond, ◌⊎◌, inl, inr, List, Option, Some, None, refl, sym, ap, ◌∙◌, arith}
use Rattle.std.specs.Option.{option_map_or, unwrap_or}
use Rattle.std.specs.Map.{lookup, set_value}
use Rattle.std.proofs.lemmas.Slice.Eq.{slice_eq-Decides}
use Rattle.std.proofs.lemmas.Bool.Decides.{Decides-eqb}
use Rattle.std.proofs.lemmas.Map.Entries.{sum_by-set_value}
use Rattle.std.proofs.lemmas.Map.Steps.{set_value_same}
use Rattle.gs_base.specs.declared.names.PeerNo.{PeerNo}
use Rattle.gs_base.specs.Names.{same_peer}
use Rattle.gs_score.specs.declared.addresses.AddressEntry.{AddressEntry}
use Rattle.gs_score.specs.Addresses.{address_entry_at, counts_at, is_counted, kept_number, number_at, one_if, same_address, shut, shut_out}
use Rattle.gs_score.proofs.Kept.{cond_unwrap}
use Rattle.gs_score.proofs.Sums.{from_decides}

address_cases : (a b : List ℕ) → ((same_address a b ≡ true) × (a ≡ b)) ⊎ ((same_address a b ≡ false) × (a ≡ b → ⊥))
address_cases a b = from_decides (same_address a b) (slice_eq-Decides Decides-eqb a b (same_address a b) refl)

-- what is kept, after a number is written
written : (old new : List (List ℕ × ℕ)) (key : List ℕ) (n : ℕ)
    → ((q : List ℕ) → lookup (same_address q) new ≡ cond (same_address key q) (Some n) (lookup (same_address q) old))
    → (a : List ℕ) → kept_number new a ≡ cond (same_address key a) n (kept_number old a)
written old new key n h a = ap (λ (o : Option ℕ). unwrap_or o 0) (h a) ∙ cond_unwrap (same_address key a) n 0 (lookup (same_address a) old)

pub one_more : (old new : List (List ℕ × ℕ)) (key : List ℕ)
    → ((q : List ℕ) → lookup (same_address q) new ≡ cond (same_address key q) (Some (kept_number old key + 1)) (lookup (same_address q) old))
    → (a : List ℕ) → kept_number new a ≡ kept_number old a + one_if (same_address key a)
one_more old new key h a =
    let is = written old new key (kept_number old key + 1) h a in
    elim (address_cases key a) [
      | inl p ↦ rw (is, p.0, p.1) refl
      | inr p ↦ rw (is, p.0) (omega arith)
    ]

pub one_less : (old new : List (List ℕ × ℕ)) (key : List ℕ)
    → ((q : List ℕ) → lookup (same_address q) new ≡ cond (same_address key q) (Some (kept_number old key - 1)) (lookup (same_address q) old))
    → (a : List ℕ) → kept_number new a ≡ kept_number old a - one_if (same_address key a)
one_less old new key h a =
    let is = written old new key (kept_number old key - 1) h a in
    elim (address_cases key a) [
      | inl p ↦ rw (is, p.0, p.1) refl
      | inr p ↦ rw (is, p.0) (omega arith)
    ]

-- who does not count is not shut out anew
pub uncounted_stays : (addresses : List (PeerNo × AddressEntry)) (p : PeerNo) → is_counted addresses p ≡ false → addresses ≡ shut_out p addresses
uncounted_stays addresses p none = by (address_entry_at addresses p) refl none
  where
    by : (o : Option AddressEntry) → address_entry_at addresses p ≡ o → option_map_or (λ (x : AddressEntry). x.counted) o false ≡ false → addresses ≡ option_map_or (λ x. set_value (same_peer p) addresses (shut x)) o addresses
    by None e n = refl
    by (Some x) e n = sym (set_value_same (same_peer p) addresses (shut x) (e ∙ ap (λ (b : Bool). Some (record x { counted = b })) n))

-- who counted and is shut out is one less at its address
pub shut_number : (addresses : List (PeerNo × AddressEntry)) (p : PeerNo) (x : AddressEntry) → address_entry_at addresses p ≡ Some x → x.counted ≡ true
    → (a : List ℕ) → number_at (set_value (same_peer p) addresses (shut x)) a ≡ number_at addresses a - one_if (same_address x.address a)
shut_number addresses p x found counted a =
    let f : AddressEntry → ℕ = λ y. one_if (counts_at a y) in
    let sums = sum_by-set_value f (same_peer p) addresses x (shut x) found in
    let was : f x ≡ one_if (same_address x.address a) = rw counted refl in
    omega (arith, sums, was)
