-- Every list of bytes is a stream: it is decided what bytes spell, and how a stream goes on.
use Rattle.std.proofs.Common.{◌≡◌, ◌⊎◌, ℕ, zero, suc, ◌≤◌, List, [], ◌∷◌, ◌++◌, length, take, drop, Some, None, refl, sym, ap, subst, ◌∙◌, append_assoc, take-append-drop, length-take, length-drop, arith, inl, inr}
use Rattle.std.specs.List.{AllByRecursion}
use Rattle.std.proofs.lemmas.Bool.{cases_lt}
use Rattle.gs_base.specs.declared.rpc.Rpc.{Rpc}
use Rattle.gs_wire.specs.declared.frames.End.{End}
use Rattle.gs_wire.specs.declared.frames.End.TheVariants as ends
use Rattle.gs_wire.specs.Varint.{IsVarint}
use Rattle.gs_wire.specs.Records.{Record, SpellRecords, len_values}
use Rattle.gs_wire.specs.Reading.{varint_at}
use Rattle.gs_wire.specs.Fields.{Spells}
use Rattle.gs_wire.specs.Controls.{SaysControl, SaysMerged, joined}
use Rattle.gs_wire.specs.Messages.{SaysSub, SaysMessage, SaysRpc, SpellsRpc}
use Rattle.gs_wire.specs.Stream.{SpellsFrame, BeginsLength, HasLength, GoesOn, IsStream}
use Rattle.gs_wire.proofs.RecordLists.{one_list}
use Rattle.gs_wire.proofs.Zips.{AllZip-same}
use Rattle.gs_wire.proofs.Parts.{sub_of, message_of}
use Rattle.gs_wire.proofs.Deciding.{Decided, part, records, zips}
use Rattle.gs_wire.proofs.ControlKinds.{control_said}
use Rattle.gs_wire.proofs.Lengths.{option_cases, length_found, length_shorter, no_length}
use Rattle.gs_wire.proofs.FrameLists.{body_named}

-- ---- control

merged : (values : List (List ℕ)) → Decided SaysMerged values
merged [] = inl (None, refl)
merged (bytes ∷ values) = elim (zips SpellRecords records (bytes ∷ values)) [
  | inr none ↦ inr (λ c h. none h.1 h.3)
  | inl lists ↦ elim (control_said (joined lists.0)) [
    | inl found ↦ inl (Some found.0, (found.0, lists.0, refl, lists.1, found.1))
    | inr none ↦ inr (λ c h. let same = AllZip-same SpellRecords (λ (t : List ℕ) (rs qs : List Record). one_list rs qs t) (bytes ∷ values) h.1 lists.0 h.3 lists.1 in none h.0 (subst (λ (ls : List (List Record)). SaysControl (joined ls) h.0) same h.4))
  ]
]

-- ---- an RPC

rpc_said : (rs : List Record) → Decided SaysRpc rs
rpc_said rs = elim (zips (Spells SaysSub) (part SaysSub sub_of (λ rs. refl)) (len_values 1 rs)) [
  | inr none ↦ inr (λ v h. none v.subs h.subs)
  | inl subs ↦ elim (zips (Spells SaysMessage) (part SaysMessage message_of (λ rs. refl)) (len_values 2 rs)) [
    | inr none ↦ inr (λ v h. none v.publish h.publish)
    | inl publish ↦ elim (merged (len_values 3 rs)) [
      | inr none ↦ inr (λ v h. none v.control h.control)
      | inl found ↦ inl (record { subs = subs.0; publish = publish.0; control = found.0 }, record { subs = subs.1; publish = publish.1; control = found.1 })
    ]
  ]
]

rpc : (bytes : List ℕ) → Decided SpellsRpc bytes
rpc bytes = elim (records bytes) [
  | inr none ↦ inr (λ v h. none h.0 h.1)
  | inl found ↦ elim (rpc_said found.0) [
    | inl v ↦ inl (v.0, (found.0, found.1, v.1))
    | inr none ↦ inr (λ v h. none v (subst (λ (rs : List Record). SaysRpc rs v) (one_list h.0 found.0 bytes h.1 found.1) h.2))
  ]
]

-- ---- a stream

all_cases : (bytes : List ℕ) → AllByRecursion (λ b. 128 ≤ b) bytes ⊎ ¬ (AllByRecursion (λ b. 128 ≤ b) bytes)
all_cases [] = inl tt
all_cases (b ∷ bytes) = elim (cases_lt b 128) [
  | inl lt ↦ inr (λ all. omega (arith, lt, all.0))
  | inr le ↦ elim (all_cases bytes) [
    | inl all ↦ inl (le, all)
    | inr none ↦ inr (λ all. none all.1)
  ]
]

begins_cases : (bytes : List ℕ) → BeginsLength bytes ⊎ ¬ (BeginsLength bytes)
begins_cases bytes = elim (cases_lt (length bytes) 10) [
  | inr long ↦ inr (λ begins. omega (arith, long, begins.0))
  | inl few ↦ elim (all_cases bytes) [
    | inl all ↦ inl (few, all)
    | inr none ↦ inr (λ begins. none begins.1)
  ]
]

abbrev SomeStream : ℕ → List ℕ → Type 0
SomeStream limit bytes = (vs : List Rpc) × (rest : List ℕ) × (end : End) × IsStream limit bytes vs rest end

-- no whole frame stands at the front
at_once : (limit : ℕ) (bytes : List ℕ) (end : End) → GoesOn limit bytes end → SomeStream limit bytes
at_once limit bytes end on = ([], bytes, end, record { front = []; parts = refl; frames = refl; goes_on = on })

-- a whole frame stands there
frame_first : (limit : ℕ) (bytes : List ℕ) (n : ℕ) (rest : List ℕ) (v : Rpc) → HasLength bytes n rest → n ≤ limit → n ≤ length rest → SpellsRpc (take n rest) v → SomeStream limit (drop n rest) → SomeStream limit bytes
frame_first limit bytes n rest v h low long spells (vs, left, end, s) =
    let whole : n ≡ length (take n rest) = omega (arith, long, length-take n rest) in
    let parts : bytes ≡ (h.len ++ take n rest) ++ (s.front ++ left) = h.parts ∙ ap (λ (t : List ℕ). h.len ++ t) (sym (take-append-drop n rest) ∙ ap (λ (t : List ℕ). take n rest ++ t) s.parts) ∙ sym (append_assoc h.len (take n rest) (s.front ++ left)) in
    let one : SpellsFrame limit (h.len ++ take n rest) v = record { len = h.len; body = take n rest; parts = refl; spells_len = subst (λ (k : ℕ). IsVarint h.len k) whole h.spells; within = omega (arith, whole, low); spells_body = spells } in
    (v ∷ vs, left, end, record { front = (h.len ++ take n rest) ++ s.front; parts = parts ∙ sym (append_assoc (h.len ++ take n rest) s.front left); frames = (h.len ++ take n rest, s.front, refl, one, s.frames); goes_on = s.goes_on })

stream_upto : (limit fuel : ℕ) (bytes : List ℕ) → length bytes ≤ fuel → SomeStream limit bytes
stream_upto limit fuel [] few = at_once limit [] ends.Waits (inl (omega arith, tt))
stream_upto limit zero (b ∷ more) few = absurd (omega arith)
stream_upto limit (suc fuel) (b ∷ more) few =
    let bytes : List ℕ = b ∷ more in
    elim (option_cases (varint_at bytes)) [
      | inl none ↦ elim (begins_cases bytes) [
        | inl begins ↦ at_once limit bytes ends.Waits (inl begins)
        | inr not ↦ at_once limit bytes ends.Malformed (inl (not, no_length bytes none))
      ]
      | inr found ↦
          let n = found.0.0 in
          let rest = found.0.1 in
          let h = length_found bytes n rest found.1 in
          elim (cases_lt limit n) [
            | inl long ↦ at_once limit bytes ends.TooLong (n, rest, h, long)
            | inr low ↦ elim (cases_lt (length rest) n) [
              | inl few' ↦ at_once limit bytes ends.Waits (inr (n, rest, h, low, few'))
              | inr whole ↦ elim (rpc (take n rest)) [
                | inr none ↦
                    let is : n ≡ length (take n rest) = omega (arith, whole, length-take n rest) in
                    at_once limit bytes ends.Malformed (inr (take n rest, drop n rest, body_named bytes n rest h is, omega (arith, is, low), none))
                | inl v ↦ frame_first limit bytes n rest v.0 h low whole v.1 (stream_upto limit fuel (drop n rest) (omega (arith, few, length_shorter bytes n rest h, length-drop n rest)))
              ]
            ]
          ]
    ]

pub every_stream : (limit : ℕ) (bytes : List ℕ) → (vs : List Rpc) × (rest : List ℕ) × (end : End) × IsStream limit bytes vs rest end
every_stream limit bytes = stream_upto limit (length bytes) bytes (omega arith)
