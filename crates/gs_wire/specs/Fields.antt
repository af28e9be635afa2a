-- Values as lists of records: how a field is read from records, and how it is written as records.
use Rattle.std.specs.Prelude.{ℕ, Bool, true, false, not, ◌==◌, List, [], ◌∷◌, map, Option, Some, None, option_map}
use Rattle.gs_base.specs.declared.names.Topic.{Topic}
use Rattle.gs_wire.specs.Records.{Record, Varint, Len, SpellRecords, varint_values, len_values, last, records_text}

-- The bytes spell the value: they spell records, and those say it.
abbrev pub Spells : {V : Type 0} → (List Record → V → Type 0) → List ℕ → V → Type 0
Spells Says bytes v = (rs : List Record) × SpellRecords bytes rs × Says rs v

-- ---- what records say: for a field that isn't repeated, the last value is used

abbrev pub bytes_of : ℕ → List Record → Option (List ℕ)
bytes_of field rs = last (len_values field rs)

abbrev pub as_topic : List ℕ → Topic
as_topic bytes = record { 0 = bytes }

abbrev pub topic_of : ℕ → List Record → Option Topic
topic_of field rs = option_map as_topic (last (len_values field rs))

abbrev pub number_of : ℕ → List Record → Option ℕ
number_of field rs = last (varint_values field rs)

-- a truth value is true where it isn't 0
abbrev pub bool_of : ℕ → List Record → Option Bool
bool_of field rs = option_map (λ n. not (n == 0)) (last (varint_values field rs))

-- ---- the records of a field: nothing for what is absent, and repeated values in order

abbrev pub varint_record : ℕ → ℕ → Record
varint_record field n = record { field = field; value = Varint n }

abbrev pub len_record : ℕ → List ℕ → Record
len_record field bytes = record { field = field; value = Len bytes }

abbrev pub number_records : ℕ → Option ℕ → List Record
number_records field None = []
number_records field (Some n) = varint_record field n ∷ []

abbrev pub bool_number : Bool → ℕ
bool_number true = 1
bool_number false = 0

abbrev pub bool_records : ℕ → Option Bool → List Record
bool_records field o = number_records field (option_map bool_number o)

abbrev pub bytes_records : ℕ → Option (List ℕ) → List Record
bytes_records field None = []
bytes_records field (Some bytes) = len_record field bytes ∷ []

abbrev pub topic_bytes : Option Topic → Option (List ℕ)
topic_bytes o = option_map (λ t. t.0) o

abbrev pub repeated_records : ℕ → List (List ℕ) → List Record
repeated_records field values = map (len_record field) values

-- one record for each part, which holds the part's shortest spelling
abbrev pub part_records : {V : Type 0} → (V → List Record) → ℕ → List V → List Record
part_records records_of field vs = map (λ v. len_record field (records_text (records_of v))) vs
