-- What was read is not longer when it is written: the fields that records say, written anew, take no more than the records.
use Rattle.std.proofs.Common.{◌≡◌, ◌⊎◌, ℕ, zero, suc, ◌+◌, ◌-◌, ◌*◌, ◌<◌, ◌≤◌, Bool, true, false, eqb, List, [], ◌∷◌, ◌++◌, length, map, Option, Some, None, refl, ap, ◌∙◌, length-append, arith, inl, inr}
use Rattle.std.specs.Prelude.{not, ◌==◌, if◌then◌else◌, option_map}
use Rattle.std.specs.List.{AllZip, cons_option}
use Rattle.std.proofs.lemmas.Bool.{eqb-true, ne_eqb}
use Rattle.std.proofs.Math.Dec.{eqb-suc-zero}
use Rattle.gs_wire.specs.Varint.{varint}
use Rattle.gs_wire.specs.Records.{Value, Varint, I64, Len, I32, Record, tag_of, SpellsValue, SpellsRecord, SpellRecords, varint_in, len_in, varint_values, len_values, last_or, last, value_text, record_text, records_text}
use Rattle.gs_wire.specs.Fields.{as_topic, bytes_of, topic_of, number_of, bool_of, topic_bytes, bool_number, varint_record, len_record, number_records, bool_records, bytes_records, repeated_records, part_records}
use Rattle.gs_wire.proofs.Varints.{written_shortest}
use Rattle.gs_wire.proofs.VarintLengths.{more_groups}
use Rattle.gs_wire.proofs.Written.{records_text-single, sum_text}

-- ---- records

value_shorter : (v : Value) (text : List ℕ) → SpellsValue text v → length (value_text v) ≤ length text
value_shorter (Varint n) text h = written_shortest 9 text n h.groups
value_shorter (I64 bytes) text h = omega (arith, ap length h.0)
value_shorter (Len bytes) text h = omega (arith, written_shortest 9 h.0 (length bytes) h.1.groups, ap length h.2, length-append h.0 bytes, length-append (varint (length bytes)) bytes)
value_shorter (I32 bytes) text h = omega (arith, ap length h.0)

record_shorter : (r : Record) (text : List ℕ) → SpellsRecord text r → length (record_text r) ≤ length text
record_shorter r text h =
    omega (arith, written_shortest 9 h.tag (tag_of r) h.spells_tag.groups, value_shorter r.value h.rest h.spells_value, ap length h.parts, length-append h.tag h.rest, length-append (varint (tag_of r)) (value_text r.value))

-- the shortest spelling of the records that bytes spell
pub records_shorter : (rs : List Record) (text : List ℕ) → SpellRecords text rs → length (records_text rs) ≤ length text
records_shorter [] text h = omega arith
records_shorter (r ∷ rs) text h =
    omega (arith, record_shorter r h.0 h.3, records_shorter rs h.1 h.4, ap length h.2, length-append h.0 h.1, length-append (record_text r) (records_text rs))

-- a record of fewer bytes
pub len_shorter : (field : ℕ) (a b : List ℕ) → length a ≤ length b → length (record_text (len_record field a)) ≤ length (record_text (len_record field b))
len_shorter field a b le =
    omega (arith, le, more_groups 9 (length a) (length b) le, length-append (varint (8 * field + 2)) (varint (length a) ++ a), length-append (varint (8 * field + 2)) (varint (length b) ++ b), length-append (varint (length a)) a, length-append (varint (length b)) b)

-- ---- the records of one field

-- the records of other fields
abbrev without : ℕ → List Record → List Record
without field [] = []
without field (r ∷ rs) = if r.field == field then without field rs else r ∷ without field rs

abbrev len_texts : ℕ → List Record → List ℕ
len_texts field rs = records_text (repeated_records field (len_values field rs))

abbrev varint_texts : ℕ → List Record → List ℕ
varint_texts field rs = records_text (map (varint_record field) (varint_values field rs))

test_cases : (b : Bool) → (b ≡ true) ⊎ (b ≡ false)
test_cases true = inl refl
test_cases false = inr refl

-- one record more, where `one` is counted of it if it is of the field
peel_step : (field : ℕ) (r : Record) (rs : List Record) (one more : ℕ) → (eqb r.field field ≡ true → one ≤ length (record_text r)) → (eqb r.field field ≡ false → one ≡ 0) → more + length (records_text (without field rs)) ≤ length (records_text rs) → one + more + length (records_text (without field (r ∷ rs))) ≤ length (records_text (r ∷ rs))
peel_step field r rs one more is other h =
    let whole = length-append (record_text r) (records_text rs) in
    elim (test_cases (eqb r.field field)) [
      | inl same ↦ rw same (omega (arith, h, whole, is same))
      | inr apart ↦ rw apart (omega (arith, h, whole, other apart, length-append (record_text r) (records_text (without field rs))))
    ]

-- what a record of bytes or a number counts
abbrev len_count : ℕ → ℕ → Value → ℕ
len_count wanted field value = length (records_text (repeated_records wanted (cons_option (len_in wanted field value) [])))

abbrev varint_count : ℕ → ℕ → Value → ℕ
varint_count wanted field value = length (records_text (map (varint_record wanted) (cons_option (varint_in wanted field value) [])))

len_counted : (wanted field : ℕ) (value : Value) → eqb field wanted ≡ true → len_count wanted field value ≤ length (record_text (record { field = field; value = value }))
len_counted wanted field (Varint n) same = omega arith
len_counted wanted field (I64 bytes) same = omega arith
len_counted wanted field (Len bytes) same =
    let e : field ≡ wanted = eqb-true field wanted same in
    rw (same, e) (omega (arith, ap length (records_text-single (len_record wanted bytes))))
len_counted wanted field (I32 bytes) same = omega arith

len_not_counted : (wanted field : ℕ) (value : Value) → eqb field wanted ≡ false → len_count wanted field value ≡ 0
len_not_counted wanted field (Varint n) apart = refl
len_not_counted wanted field (I64 bytes) apart = refl
len_not_counted wanted field (Len bytes) apart = rw apart refl
len_not_counted wanted field (I32 bytes) apart = refl

varint_counted : (wanted field : ℕ) (value : Value) → eqb field wanted ≡ true → varint_count wanted field value ≤ length (record_text (record { field = field; value = value }))
varint_counted wanted field (Varint n) same =
    let e : field ≡ wanted = eqb-true field wanted same in
    rw (same, e) (omega (arith, ap length (records_text-single (varint_record wanted n))))
varint_counted wanted field (I64 bytes) same = omega arith
varint_counted wanted field (Len bytes) same = omega arith
varint_counted wanted field (I32 bytes) same = omega arith

varint_not_counted : (wanted field : ℕ) (value : Value) → eqb field wanted ≡ false → varint_count wanted field value ≡ 0
varint_not_counted wanted field (Varint n) apart = rw apart refl
varint_not_counted wanted field (I64 bytes) apart = refl
varint_not_counted wanted field (Len bytes) apart = refl
varint_not_counted wanted field (I32 bytes) apart = refl

len_more : (wanted : ℕ) (r : Record) (rs : List Record) → length (len_texts wanted (r ∷ rs)) ≡ len_count wanted r.field r.value + length (len_texts wanted rs)
len_more wanted r rs = by_found (len_in wanted r.field r.value)
  where
    by_found : (o : Option (List ℕ)) → length (records_text (repeated_records wanted (cons_option o (len_values wanted rs)))) ≡ length (records_text (repeated_records wanted (cons_option o []))) + length (len_texts wanted rs)
    by_found None = omega arith
    by_found (Some bytes) = omega (arith, length-append (record_text (len_record wanted bytes)) (len_texts wanted rs), ap length (records_text-single (len_record wanted bytes)))

varint_more : (wanted : ℕ) (r : Record) (rs : List Record) → length (varint_texts wanted (r ∷ rs)) ≡ varint_count wanted r.field r.value + length (varint_texts wanted rs)
varint_more wanted r rs = by_found (varint_in wanted r.field r.value)
  where
    by_found : (o : Option ℕ) → length (records_text (map (varint_record wanted) (cons_option o (varint_values wanted rs)))) ≡ length (records_text (map (varint_record wanted) (cons_option o []))) + length (varint_texts wanted rs)
    by_found None = omega arith
    by_found (Some n) = omega (arith, length-append (record_text (varint_record wanted n)) (varint_texts wanted rs), ap length (records_text-single (varint_record wanted n)))

len_peel : (field : ℕ) (rs : List Record) → length (len_texts field rs) + length (records_text (without field rs)) ≤ length (records_text rs)
len_peel field [] = omega arith
len_peel field (r ∷ rs) = rw (len_more field r rs) (peel_step field r rs (len_count field r.field r.value) (length (len_texts field rs)) (len_counted field r.field r.value) (len_not_counted field r.field r.value) (len_peel field rs))

varint_peel : (field : ℕ) (rs : List Record) → length (varint_texts field rs) + length (records_text (without field rs)) ≤ length (records_text rs)
varint_peel field [] = omega arith
varint_peel field (r ∷ rs) = rw (varint_more field r rs) (peel_step field r rs (varint_count field r.field r.value) (length (varint_texts field rs)) (varint_counted field r.field r.value) (varint_not_counted field r.field r.value) (varint_peel field rs))

-- the values of other fields stay
not_len_in : (wanted field : ℕ) (value : Value) → eqb field wanted ≡ false → len_in wanted field value ≡ None
not_len_in wanted field (Varint n) apart = refl
not_len_in wanted field (I64 bytes) apart = refl
not_len_in wanted field (Len bytes) apart = rw apart refl
not_len_in wanted field (I32 bytes) apart = refl

not_varint_in : (wanted field : ℕ) (value : Value) → eqb field wanted ≡ false → varint_in wanted field value ≡ None
not_varint_in wanted field (Varint n) apart = rw apart refl
not_varint_in wanted field (I64 bytes) apart = refl
not_varint_in wanted field (Len bytes) apart = refl
not_varint_in wanted field (I32 bytes) apart = refl

len_kept : (wanted field : ℕ) (rs : List Record) → eqb field wanted ≡ false → len_values wanted (without field rs) ≡ len_values wanted rs
len_kept wanted field [] apart = refl
len_kept wanted field (r ∷ rs) apart = elim (test_cases (eqb r.field field)) [
  | inl same ↦
      let other : eqb r.field wanted ≡ false = ap (λ (f : ℕ). eqb f wanted) (eqb-true r.field field same) ∙ apart in
      rw (same, not_len_in wanted r.field r.value other) (len_kept wanted field rs apart)
  | inr kept ↦ rw kept (ap (λ (values : List (List ℕ)). cons_option (len_in wanted r.field r.value) values) (len_kept wanted field rs apart))
]

varint_kept : (wanted field : ℕ) (rs : List Record) → eqb field wanted ≡ false → varint_values wanted (without field rs) ≡ varint_values wanted rs
varint_kept wanted field [] apart = refl
varint_kept wanted field (r ∷ rs) apart = elim (test_cases (eqb r.field field)) [
  | inl same ↦
      let other : eqb r.field wanted ≡ false = ap (λ (f : ℕ). eqb f wanted) (eqb-true r.field field same) ∙ apart in
      rw (same, not_varint_in wanted r.field r.value other) (varint_kept wanted field rs apart)
  | inr kept ↦ rw kept (ap (λ (values : List ℕ). cons_option (varint_in wanted r.field r.value) values) (varint_kept wanted field rs apart))
]

-- ---- fields ascending: what is written for them fits, beside the records of later ones

pub record Counted (rs written : List Record) (upto : ℕ) : Type 0 where
  pub left : List Record
  pub room : length (records_text written) + length (records_text left) ≤ length (records_text rs)
  pub lens : (wanted : ℕ) → upto < wanted → len_values wanted left ≡ len_values wanted rs
  pub varints : (wanted : ℕ) → upto < wanted → varint_values wanted left ≡ varint_values wanted rs

pub no_fields : (rs : List Record) → Counted rs [] 0
no_fields rs = record { left = rs; room = omega arith; lens = λ wanted above. refl; varints = λ wanted above. refl }

pub all_counted : {rs written : List Record} {upto : ℕ} → Counted rs written upto → length (records_text written) ≤ length (records_text rs)
all_counted c = omega (arith, c.room)

pub len_more_field : {rs written : List Record} {upto : ℕ} (field : ℕ) (more : List Record) → Counted rs written upto → upto < field → length (records_text more) ≤ length (len_texts field rs) → Counted rs (written ++ more) field
len_more_field {rs} {written} {upto} field more c above few =
    let same = ap (λ (values : List (List ℕ)). length (records_text (repeated_records field values))) (c.lens field above) in
    record {
      left = without field c.left;
      room = omega (arith, c.room, few, same, len_peel field c.left, sum_text written more);
      lens = λ wanted later. len_kept wanted field c.left (ne_eqb field wanted (omega (arith, later))) ∙ c.lens wanted (omega (arith, above, later));
      varints = λ wanted later. varint_kept wanted field c.left (ne_eqb field wanted (omega (arith, later))) ∙ c.varints wanted (omega (arith, above, later));
    }

varint_more_field : {rs written : List Record} {upto : ℕ} (field : ℕ) (more : List Record) → Counted rs written upto → upto < field → length (records_text more) ≤ length (varint_texts field rs) → Counted rs (written ++ more) field
varint_more_field {rs} {written} {upto} field more c above few =
    let same = ap (λ (values : List ℕ). length (records_text (map (varint_record field) values))) (c.varints field above) in
    record {
      left = without field c.left;
      room = omega (arith, c.room, few, same, varint_peel field c.left, sum_text written more);
      lens = λ wanted later. len_kept wanted field c.left (ne_eqb field wanted (omega (arith, later))) ∙ c.lens wanted (omega (arith, above, later));
      varints = λ wanted later. varint_kept wanted field c.left (ne_eqb field wanted (omega (arith, later))) ∙ c.varints wanted (omega (arith, above, later));
    }

-- ---- the last value of a field is one of its values

last_bytes : (field : ℕ) (found : Option (List ℕ)) (xs : List (List ℕ)) → length (records_text (bytes_records field (last_or found xs))) ≤ length (records_text (bytes_records field found)) + length (records_text (repeated_records field xs))
last_bytes field found [] = omega arith
last_bytes field found (x ∷ xs) =
    omega (arith, last_bytes field (Some x) xs, ap length (records_text-single (len_record field x)), length-append (record_text (len_record field x)) (records_text (repeated_records field xs)))

last_number : (field : ℕ) (found : Option ℕ) (xs : List ℕ) → length (records_text (number_records field (last_or found xs))) ≤ length (records_text (number_records field found)) + length (records_text (map (varint_record field) xs))
last_number field found [] = omega arith
last_number field found (x ∷ xs) =
    omega (arith, last_number field (Some x) xs, ap length (records_text-single (varint_record field x)), length-append (record_text (varint_record field x)) (records_text (map (varint_record field) xs)))

-- a truth value is written as a number that isn't larger
truth_small : (n : ℕ) → bool_number (not (n == 0)) ≤ n
truth_small zero = omega arith
truth_small (suc n) = rw (eqb-suc-zero n) (omega arith)

truth_shorter : (field : ℕ) (o : Option ℕ) → length (records_text (bool_records field (option_map (λ n. not (n == 0)) o))) ≤ length (records_text (number_records field o))
truth_shorter field None = omega arith
truth_shorter field (Some n) =
    let b = bool_number (not (n == 0)) in
    omega (arith, more_groups 9 b n (truth_small n), ap length (records_text-single (varint_record field b)), ap length (records_text-single (varint_record field n)), length-append (varint (8 * field + 0)) (varint b), length-append (varint (8 * field + 0)) (varint n))

topic_back : (o : Option (List ℕ)) → topic_bytes (option_map as_topic o) ≡ o
topic_back None = refl
topic_back (Some bytes) = refl

last_topic : (field : ℕ) (xs : List (List ℕ)) → length (records_text (bytes_records field (topic_bytes (option_map as_topic (last xs))))) ≤ length (records_text (repeated_records field xs))
last_topic field xs = rw (topic_back (last xs)) (omega (arith, last_bytes field None xs))

-- ---- parts

abbrev pub IsShorter : {V : Type 0} → (V → List Record) → List ℕ → V → Type 0
IsShorter records_of bytes v = length (records_text (records_of v)) ≤ length bytes

parts_shorter : {V : Type 0} (R : List ℕ → V → Type 0) (records_of : V → List Record) (field : ℕ) → ((bytes : List ℕ) (v : V) → R bytes v → IsShorter records_of bytes v) → (values : List (List ℕ)) (vs : List V) → AllZip R values vs → length (records_text (part_records records_of field vs)) ≤ length (records_text (repeated_records field values))
parts_shorter R records_of field one [] [] h = omega arith
parts_shorter R records_of field one [] (v ∷ vs) h = absurd h
parts_shorter R records_of field one (bytes ∷ values) [] h = absurd h
parts_shorter R records_of field one (bytes ∷ values) (v ∷ vs) h =
    omega (arith, len_shorter field (records_text (records_of v)) bytes (one bytes v h.0), parts_shorter R records_of field one values vs h.1, length-append (record_text (len_record field (records_text (records_of v)))) (records_text (part_records records_of field vs)), length-append (record_text (len_record field bytes)) (records_text (repeated_records field values)))

-- ---- a field more of each kind

pub topic_more : {rs written : List Record} {upto : ℕ} (field : ℕ) → Counted rs written upto → upto < field → Counted rs (written ++ bytes_records field (topic_bytes (topic_of field rs))) field
topic_more {rs} field c above = len_more_field field _ c above (last_topic field (len_values field rs))

pub bytes_more : {rs written : List Record} {upto : ℕ} (field : ℕ) → Counted rs written upto → upto < field → Counted rs (written ++ bytes_records field (bytes_of field rs)) field
bytes_more {rs} field c above = len_more_field field _ c above (omega (arith, last_bytes field None (len_values field rs)))

pub repeated_more : {rs written : List Record} {upto : ℕ} (field : ℕ) → Counted rs written upto → upto < field → Counted rs (written ++ repeated_records field (len_values field rs)) field
repeated_more field c above = len_more_field field _ c above (omega arith)

pub number_more : {rs written : List Record} {upto : ℕ} (field : ℕ) → Counted rs written upto → upto < field → Counted rs (written ++ number_records field (number_of field rs)) field
number_more {rs} field c above = varint_more_field field _ c above (omega (arith, last_number field None (varint_values field rs)))

pub truth_more : {rs written : List Record} {upto : ℕ} (field : ℕ) → Counted rs written upto → upto < field → Counted rs (written ++ bool_records field (bool_of field rs)) field
truth_more {rs} field c above =
    varint_more_field field _ c above (omega (arith, truth_shorter field (last (varint_values field rs)), last_number field None (varint_values field rs)))

pub parts_more : {V : Type 0} {rs written : List Record} {upto : ℕ} (R : List ℕ → V → Type 0) (records_of : V → List Record) (field : ℕ) → ((bytes : List ℕ) (v : V) → R bytes v → IsShorter records_of bytes v) → (vs : List V) → AllZip R (len_values field rs) vs → Counted rs written upto → upto < field → Counted rs (written ++ part_records records_of field vs) field
parts_more {V} {rs} R records_of field one vs spelled c above =
    len_more_field field (part_records records_of field vs) c above (parts_shorter R records_of field one (len_values field rs) vs spelled)

-- ---- all fields of a part

pub all_spelled : {rs written : List Record} {upto : ℕ} (bytes : List ℕ) → SpellRecords bytes rs → Counted rs written upto → length (records_text written) ≤ length bytes
all_spelled {rs} bytes spelled c = omega (arith, all_counted c, records_shorter rs bytes spelled)
