-- Control messages as lists of records (gossipsub v1.0 and v1.1, "Control messages": `rpc.proto`).
-- The numbers are those of the fields there.
use Rattle.std.specs.Prelude.{◌≡◌, ℕ, ◌++◌, List, [], ◌∷◌, Option, Some, None}
use Rattle.std.specs.List.{AllZip, flat_map}
use Rattle.gs_base.specs.declared.control.IHave.{IHave}
use Rattle.gs_base.specs.declared.control.IWant.{IWant}
use Rattle.gs_base.specs.declared.control.Graft.{Graft}
use Rattle.gs_base.specs.declared.control.Prune.{Prune}
use Rattle.gs_base.specs.declared.control.Control.{Control}
use Rattle.gs_base.specs.declared.rpc.Rpc.{Rpc}
use Rattle.gs_base.specs.Rpcs.{grafts_in, offers_in, prunes_in, requests_in}
use Rattle.gs_wire.specs.Records.{Record, SpellRecords, len_values}
use Rattle.gs_wire.specs.Fields.{Spells, topic_of, number_of, topic_bytes, bytes_records, number_records, repeated_records, part_records}

-- ---- what records say

abbrev pub SaysIHave : List Record → IHave → Type 0
SaysIHave rs v = v ≡ record { topic = topic_of 1 rs; ids = len_values 2 rs }

abbrev pub SaysIWant : List Record → IWant → Type 0
SaysIWant rs v = v ≡ record { ids = len_values 1 rs }

abbrev pub SaysGraft : List Record → Graft → Type 0
SaysGraft rs v = v ≡ record { topic = topic_of 1 rs }

-- Nothing is said about the peers for peer exchange, which are skipped.
abbrev pub SaysPrune : List Record → Prune → Type 0
SaysPrune rs v = v ≡ record { topic = topic_of 1 rs; backoff = number_of 3 rs }

-- Each value of a repeated field spells one part, in order.
pub record SaysControl (rs : List Record) (v : Control) : Type 0 where
  pub ihave : AllZip (Spells SaysIHave) (len_values 1 rs) v.ihave
  pub iwant : AllZip (Spells SaysIWant) (len_values 2 rs) v.iwant
  pub graft : AllZip (Spells SaysGraft) (len_values 3 rs) v.graft
  pub prune : AllZip (Spells SaysPrune) (len_values 4 rs) v.prune

abbrev pub no_control : Control
no_control = record { ihave = []; iwant = []; graft = []; prune = [] }

abbrev pub joined : List (List Record) → List Record
joined lists = flat_map (λ rs. rs) lists

-- The control of an RPC, by the values of its field. It is absent where there are no values. Each value spells records by
-- itself. All those records, joined, say the control.
abbrev pub SaysMerged : List (List ℕ) → Option Control → Type 0
SaysMerged [] control = control ≡ None
SaysMerged (bytes ∷ more) control =
    (v : Control) × (lists : List (List Record))
    × (control ≡ Some v)
    × AllZip SpellRecords (bytes ∷ more) lists
    × SaysControl (joined lists) v

-- ---- the records of a value

abbrev pub ihave_records : IHave → List Record
ihave_records v = bytes_records 1 (topic_bytes v.topic) ++ repeated_records 2 v.ids

abbrev pub iwant_records : IWant → List Record
iwant_records v = repeated_records 1 v.ids

abbrev pub graft_records : Graft → List Record
graft_records v = bytes_records 1 (topic_bytes v.topic)

abbrev pub prune_records : Prune → List Record
prune_records v = bytes_records 1 (topic_bytes v.topic) ++ number_records 3 v.backoff

abbrev pub control_records : Control → List Record
control_records v =
    part_records ihave_records 1 v.ihave
    ++ part_records iwant_records 2 v.iwant
    ++ part_records graft_records 3 v.graft
    ++ part_records prune_records 4 v.prune

-- ---- joined control messages

-- what two say, list by list
abbrev pub joined_control : Control → Control → Control
joined_control c d = record {
  ihave = c.ihave ++ d.ihave;
  iwant = c.iwant ++ d.iwant;
  graft = c.graft ++ d.graft;
  prune = c.prune ++ d.prune;
}

-- what all of these say, list by list; each of them has an RPC
abbrev pub all_control : {A : Type 0} → (A → Rpc) → List A → Control
all_control rpc_of xs = record {
  ihave = flat_map (λ x. offers_in (rpc_of x).control) xs;
  iwant = flat_map (λ x. requests_in (rpc_of x).control) xs;
  graft = flat_map (λ x. grafts_in (rpc_of x).control) xs;
  prune = flat_map (λ x. prunes_in (rpc_of x).control) xs;
}
