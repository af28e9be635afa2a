-- The texts of values in a trace: JSON (RFC 8259), with nothing between its tokens.
use Rattle.std.specs.Prelude.{ℕ, ℤ, pos, int_lt, nat_lt, unsigned_abs, Bool, true, false, ◌||◌, ◌==◌, if◌then◌else◌, List, [], ◌∷◌, ◌++◌, codes, decimal, map, Option, None, Some, slice_get}
use Rattle.std.specs.List.{flat_map}
use Rattle.hex.specs.Hex.{encode_lower}
use Rattle.gs_base.specs.declared.names.PeerNo.{PeerNo}
use Rattle.gs_base.specs.declared.names.Topic.{Topic}
use Rattle.gs_base.specs.declared.names.MsgId.{MsgId}
use Rattle.gs_base.specs.declared.names.Millis.{Millis}
use Rattle.gs_plan.specs.declared.plan.Plan.{Plan}
use Rattle.gs_plan.specs.declared.plan.PlannedPeer.{PlannedPeer}

-- ---- bytes

-- A byte of a text in quotes. A byte that JSON does not take unchanged, or that is not ASCII, is given by its number.
abbrev pub escaped : ℕ → List ℕ
escaped byte =
    if nat_lt byte 32 || (byte == 34 || (byte == 92 || nat_lt 126 byte))
    then codes "\\u00" ++ encode_lower (byte ∷ [])
    else byte ∷ []

abbrev pub quoted : List ℕ → List ℕ
quoted bytes = codes "\"" ++ flat_map escaped bytes ++ codes "\""

-- bytes as two lower-case hexadecimal digits each
abbrev pub hex_text : List ℕ → List ℕ
hex_text bytes = codes "\"" ++ encode_lower bytes ++ codes "\""

-- ---- plain values

abbrev pub truth_text : Bool → List ℕ
truth_text true = codes "true"
truth_text false = codes "false"

-- a whole number, with a sign below 0
abbrev pub whole_text : ℤ → List ℕ
whole_text z = (if int_lt z (pos 0) then codes "-" else []) ++ decimal (unsigned_abs z)

-- what may be absent
abbrev pub optional_text : {A : Type 0} → (A → List ℕ) → Option A → List ℕ
optional_text text None = codes "null"
optional_text text (Some x) = text x

abbrev pub after_comma : {A : Type 0} → (A → List ℕ) → A → List ℕ
after_comma text x = codes "," ++ text x

abbrev pub items_text : {A : Type 0} → (A → List ℕ) → List A → List ℕ
items_text text [] = []
items_text text (x ∷ xs) = text x ++ flat_map (after_comma text) xs

abbrev pub list_text : {A : Type 0} → (A → List ℕ) → List A → List ℕ
list_text text xs = codes "[" ++ items_text text xs ++ codes "]"

-- ---- names

abbrev pub topic_text : Topic → List ℕ
topic_text t = quoted t.0

abbrev pub id_text : MsgId → List ℕ
id_text id = hex_text id.0

abbrev pub moment_text : Millis → List ℕ
moment_text at = decimal at.0

-- the names of a plan's peers
abbrev pub names_of : Plan → List (List ℕ)
names_of plan = map (λ (planned : PlannedPeer). planned.name) plan.peers

-- a name, or else a number
abbrev pub name_or_number : Option (List ℕ) → ℕ → List ℕ
name_or_number None n = decimal n
name_or_number (Some name) n = quoted name

-- the name of a peer, or its number if the plan has no such peer
abbrev pub peer_text : List (List ℕ) → PeerNo → List ℕ
peer_text names q = name_or_number (slice_get names q.0) q.0
