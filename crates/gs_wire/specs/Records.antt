-- Records: a field number, a wire type and a value (Protocol Buffers, Encoding, "Message Structure").
use Rattle.std.specs.Prelude.{◌≡◌, ℕ, ◌+◌, ◌*◌, ◌≤◌, ◌==◌, if◌then◌else◌, List, [], ◌∷◌, ◌++◌, length, Option, Some, None}
use Rattle.std.specs.List.{filter_map, flat_map}
use Rattle.gs_wire.specs.Varint.{IsVarint, varint}

-- What a record holds, by its wire type.
pub data Value : Type 0 where
  Varint : ℕ → Value
  I64 : List ℕ → Value
  Len : List ℕ → Value
  I32 : List ℕ → Value

-- The number of the wire type. Groups, 3 and 4, are deprecated and are no value here.
abbrev pub wire_type : Value → ℕ
wire_type (Varint n) = 0
wire_type (I64 bytes) = 1
wire_type (Len bytes) = 2
wire_type (I32 bytes) = 5

-- The text spells the value.
abbrev pub SpellsValue : List ℕ → Value → Type 0
SpellsValue text (Varint n) = IsVarint text n
SpellsValue text (I64 bytes) = (text ≡ bytes) × (length bytes ≡ 8)
SpellsValue text (Len bytes) = (len : List ℕ) × IsVarint len (length bytes) × (text ≡ len ++ bytes)
SpellsValue text (I32 bytes) = (text ≡ bytes) × (length bytes ≡ 4)

pub record Record : Type 0 where
  pub field : ℕ
  pub value : Value

-- the tag of a record, which is its field number and its wire type in one number
abbrev pub tag_of : Record → ℕ
tag_of r = 8 * r.field + wire_type r.value

-- The text spells the record: a tag, and then the value.
pub record SpellsRecord (text : List ℕ) (r : Record) : Type 0 where
  pub tag : List ℕ
  pub rest : List ℕ
  pub parts : text ≡ tag ++ rest
  pub numbered : 1 ≤ r.field
  pub spells_tag : IsVarint tag (tag_of r)
  pub spells_value : SpellsValue rest r.value

-- The text spells the records: one spelling of each, in order.
abbrev pub SpellRecords : List ℕ → List Record → Type 0
SpellRecords text [] = text ≡ []
SpellRecords text (r ∷ rs) =
    (one : List ℕ) × (rest : List ℕ)
    × (text ≡ one ++ rest)
    × SpellsRecord one r
    × SpellRecords rest rs

-- ---- the values of one field

-- what a value holds, where it has the wire type and its field is the wanted one
abbrev pub varint_in : ℕ → ℕ → Value → Option ℕ
varint_in wanted field (Varint n) = if field == wanted then Some n else None
varint_in wanted field _ = None

abbrev pub len_in : ℕ → ℕ → Value → Option (List ℕ)
len_in wanted field (Len bytes) = if field == wanted then Some bytes else None
len_in wanted field _ = None

-- what the records of this field and wire type hold, in order; other records are skipped
abbrev pub varint_values : ℕ → List Record → List ℕ
varint_values wanted rs = filter_map (λ r. varint_in wanted r.field r.value) rs

abbrev pub len_values : ℕ → List Record → List (List ℕ)
len_values wanted rs = filter_map (λ r. len_in wanted r.field r.value) rs

-- the last element of a list, or this value where there is none
abbrev pub last_or : {A : Type 0} → Option A → List A → Option A
last_or found [] = found
last_or found (x ∷ xs) = last_or (Some x) xs

-- for a field that isn't repeated, the last value is used
abbrev pub last : {A : Type 0} → List A → Option A
last xs = last_or None xs

-- ---- the shortest spelling

abbrev pub value_text : Value → List ℕ
value_text (Varint n) = varint n
value_text (I64 bytes) = bytes
value_text (Len bytes) = varint (length bytes) ++ bytes
value_text (I32 bytes) = bytes

abbrev pub record_text : Record → List ℕ
record_text r = varint (tag_of r) ++ value_text r.value

abbrev pub records_text : List Record → List ℕ
records_text rs = flat_map record_text rs
