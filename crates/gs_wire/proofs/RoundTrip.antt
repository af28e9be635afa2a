-- What is written for a part of an RPC spells it.
use Rattle.std.proofs.Common.{◌≡◌, ℕ, ◌+◌, ◌*◌, ◌<◌, ◌≤◌, ◌^◌, List, [], ◌∷◌, ◌++◌, length, map, Option, Some, None, Bool, true, false, cond, eqb, refl, sym, append-nil, length-append, arith, rules}
use Rattle.std.specs.Prelude.{IfSome, option_map, option_to_list}
use Rattle.std.specs.List.{AllZip, AllByRecursion, cons_option}
use Rattle.std.proofs.lemmas.List.Elements.{filter_map-append}
use Rattle.gs_base.specs.declared.names.Topic.{Topic}
use Rattle.gs_base.specs.declared.rpc.SubOpt.{SubOpt}
use Rattle.gs_base.specs.declared.rpc.Message.{Message}
use Rattle.gs_wire.specs.Varint.{varint}
use Rattle.gs_wire.specs.Records.{Value, Varint, I64, Len, I32, Record, SpellsRecord, SpellRecords, varint_in, len_in, varint_values, len_values, last, record_text, records_text}
use Rattle.gs_wire.specs.Fields.{Spells, as_topic, len_record, number_records, bool_records, bytes_records, topic_bytes, repeated_records, part_records}
use Rattle.gs_wire.specs.Messages.{SaysSub, SaysMessage, sub_records, message_records}
use Rattle.gs_wire.proofs.Varints.{written_varint}
use Rattle.gs_wire.proofs.Parts.{sub_of, message_of}
use Rattle.gs_wire.proofs.Written.{len_text-length}

-- ---- records

-- a record that can be written: a small field number, and a varint or bytes
abbrev pub IsWritableValue : Value → Type 0
IsWritableValue (Varint n) = n < 2 ^ 64
IsWritableValue (I64 bytes) = ⊥
IsWritableValue (Len bytes) = Unit {0}
IsWritableValue (I32 bytes) = ⊥

abbrev pub IsWritable : Record → Type 0
IsWritable r = (1 ≤ r.field) × (r.field < 16) × IsWritableValue r.value

record_spelled : (field : ℕ) (value : Value) → IsWritable (record { field = field; value = value }) → length (record_text (record { field = field; value = value })) < 2 ^ 64 → SpellsRecord (record_text (record { field = field; value = value })) (record { field = field; value = value })
record_spelled field (Varint n) w small = record {
  tag = varint (8 * field + 0);
  rest = varint n;
  parts = refl;
  numbered = w.0;
  spells_tag = written_varint (8 * field + 0) (omega (arith, w.1));
  spells_value = written_varint n w.2;
}
record_spelled field (I64 bytes) w small = absurd w.2
record_spelled field (Len bytes) w small =
    let len = length-append (varint (8 * field + 2)) (varint (length bytes) ++ bytes) in
    let more = length-append (varint (length bytes)) bytes in
    record {
      tag = varint (8 * field + 2);
      rest = varint (length bytes) ++ bytes;
      parts = refl;
      numbered = w.0;
      spells_tag = written_varint (8 * field + 2) (omega (arith, w.1));
      spells_value = (varint (length bytes), written_varint (length bytes) (omega (arith, small, len, more)), refl);
    }
record_spelled field (I32 bytes) w small = absurd w.2

pub records_spelled : (rs : List Record) → AllByRecursion IsWritable rs → length (records_text rs) < 2 ^ 64 → SpellRecords (records_text rs) rs
records_spelled [] all small = refl
records_spelled (r ∷ rs) all small =
    let len = length-append (record_text r) (records_text rs) in (
      record_text r,
      records_text rs,
      refl,
      record_spelled r.field r.value all.0 (omega (arith, small, len)),
      records_spelled rs all.1 (omega (arith, small, len)),
    )

pub all-append : {A : Type 0} (P : A → Type 0) (xs ys : List A) → AllByRecursion P xs → AllByRecursion P ys → AllByRecursion P (xs ++ ys)
all-append P [] ys h k = k
all-append P (x ∷ xs) ys h k = (h.0, all-append P xs ys h.1 k)

bool_writable : (field : ℕ) (o : Option Bool) → 1 ≤ field → field < 16 → AllByRecursion IsWritable (bool_records field o)
bool_writable field None low high = tt
bool_writable field (Some true) low high = ((low, high, omega arith), tt)
bool_writable field (Some false) low high = ((low, high, omega arith), tt)

pub number_writable : (field : ℕ) (o : Option ℕ) → IfSome o (λ n. n < 2 ^ 64) → 1 ≤ field → field < 16 → AllByRecursion IsWritable (number_records field o)
number_writable field None fits low high = tt
number_writable field (Some n) fits low high = ((low, high, fits), tt)

pub repeated_writable : (field : ℕ) (values : List (List ℕ)) → 1 ≤ field → field < 16 → AllByRecursion IsWritable (repeated_records field values)
repeated_writable field [] low high = tt
repeated_writable field (bytes ∷ values) low high = ((low, high, tt), repeated_writable field values low high)

pub bytes_writable : (field : ℕ) (o : Option (List ℕ)) → 1 ≤ field → field < 16 → AllByRecursion IsWritable (bytes_records field o)
bytes_writable field None low high = tt
bytes_writable field (Some bytes) low high = ((low, high, tt), tt)

pub parts_writable : {V : Type 0} (records_of : V → List Record) (field : ℕ) (vs : List V) → 1 ≤ field → field < 16 → AllByRecursion IsWritable (part_records records_of field vs)
parts_writable records_of field [] low high = tt
parts_writable records_of field (v ∷ vs) low high = ((low, high, tt), parts_writable records_of field vs low high)

-- ---- the values of fields, of which a field has its own and no others

pub values-append : (wanted : ℕ) (rs qs : List Record) → len_values wanted (rs ++ qs) ≡ len_values wanted rs ++ len_values wanted qs
values-append wanted rs qs = filter_map-append (λ r. len_in wanted r.field r.value) rs qs

none_held : {A : Type 0} (b : Bool) → [] ≡ cond {A = List A} b [] []
none_held true = refl
none_held false = refl

one_held : {A : Type 0} (b : Bool) (x : A) (xs : List A) → cons_option (cond b (Some x) None) (cond b xs []) ≡ cond b (x ∷ xs) []
one_held true x xs = refl
one_held false x xs = refl

-- a field with a record for each part
pub part_values : {V : Type 0} (text : V → List ℕ) (wanted field : ℕ) (vs : List V) → len_values wanted (map (λ v. len_record field (text v)) vs) ≡ cond (eqb field wanted) (map text vs) []
part_values text wanted field [] = none_held (eqb field wanted)
part_values text wanted field (v ∷ vs) = rw (part_values text wanted field vs) (one_held (eqb field wanted) (text v) (map text vs))

pub repeated_values : (wanted field : ℕ) (values : List (List ℕ)) → len_values wanted (repeated_records field values) ≡ cond (eqb field wanted) values []
repeated_values wanted field [] = none_held (eqb field wanted)
repeated_values wanted field (bytes ∷ values) = rw (repeated_values wanted field values) (one_held (eqb field wanted) bytes values)

pub bytes_values : (wanted field : ℕ) (o : Option (List ℕ)) → len_values wanted (bytes_records field o) ≡ cond (eqb field wanted) (option_to_list o) []
bytes_values wanted field None = repeated_values wanted field []
bytes_values wanted field (Some bytes) = repeated_values wanted field (bytes ∷ [])

pub numbers-append : (wanted : ℕ) (rs qs : List Record) → varint_values wanted (rs ++ qs) ≡ varint_values wanted rs ++ varint_values wanted qs
numbers-append wanted rs qs = filter_map-append (λ r. varint_in wanted r.field r.value) rs qs

pub number_values : (wanted field : ℕ) (o : Option ℕ) → varint_values wanted (number_records field o) ≡ cond (eqb field wanted) (option_to_list o) []
number_values wanted field None = none_held (eqb field wanted)
number_values wanted field (Some n) = by_test (eqb field wanted)
  where
    by_test : (b : Bool) → cons_option (cond b (Some n) None) [] ≡ cond b (n ∷ []) []
    by_test true = refl
    by_test false = refl

-- a record holds bytes or a number
pub no_bytes : (wanted field : ℕ) (o : Option ℕ) → len_values wanted (number_records field o) ≡ []
no_bytes wanted field None = refl
no_bytes wanted field (Some n) = refl

pub no_numbers : (wanted field : ℕ) (o : Option (List ℕ)) → varint_values wanted (bytes_records field o) ≡ []
no_numbers wanted field None = refl
no_numbers wanted field (Some bytes) = refl

-- ---- what the records of a value say

sub_says : (subscribe : Option Bool) (topic : Option Topic) → let v : SubOpt = record { subscribe = subscribe; topic = topic } in v ≡ sub_of (sub_records v)
sub_says None None = refl
sub_says None (Some t) = refl
sub_says (Some true) None = refl
sub_says (Some true) (Some t) = refl
sub_says (Some false) None = refl
sub_says (Some false) (Some t) = refl

-- where there was none before, it is the only one
pub last_own : (o : Option (List ℕ)) → last (option_to_list o) ≡ o
last_own None = refl
last_own (Some bytes) = refl

pub last_number_own : (o : Option ℕ) → last (option_to_list o) ≡ o
last_number_own None = refl
last_number_own (Some n) = refl

pub own_topic : (o : Option Topic) → option_map as_topic (topic_bytes o) ≡ o
own_topic None = refl
own_topic (Some t) = refl

message_says : (v : Message) → v ≡ message_of (message_records v)
message_says v = sym (simp (values-append, bytes_values, append-nil, last_own, own_topic) refl)

-- ---- parts

pub parts_spelled : {V : Type 0} (Says : List Record → V → Type 0) (Fits : V → Type 0) (records_of : V → List Record) (field : ℕ) (vs : List V) → field < 16 → ((v : V) → Fits v → length (records_text (records_of v)) < 2 ^ 64 → Spells Says (records_text (records_of v)) v) → AllByRecursion Fits vs → length (records_text (part_records records_of field vs)) < 2 ^ 64 → AllZip (Spells Says) (map (λ v. records_text (records_of v)) vs) vs
parts_spelled Says Fits records_of field [] low spelled fit small = tt
parts_spelled Says Fits records_of field (v ∷ vs) low spelled fit small =
    let one = len_record field (records_text (records_of v)) in
    let whole = length-append (record_text one) (records_text (part_records records_of field vs)) in
    let len = len_text-length field (records_text (records_of v)) low in (
      spelled v fit.0 (omega (arith, small, whole, len)),
      parts_spelled Says Fits records_of field vs low spelled fit.1 (omega (arith, small, whole)),
    )

abbrev pub Any : {V : Type 0} → V → Type 0
Any v = Unit {0}

pub all_any : {V : Type 0} (vs : List V) → AllByRecursion Any vs
all_any [] = tt
all_any (v ∷ vs) = (tt, all_any vs)

pub sub_spelled : (v : SubOpt) → Any v → length (records_text (sub_records v)) < 2 ^ 64 → Spells SaysSub (records_text (sub_records v)) v
sub_spelled v any small = (
  sub_records v,
  records_spelled (sub_records v) (all-append IsWritable (bool_records 1 v.subscribe) (bytes_records 2 (topic_bytes v.topic)) (bool_writable 1 v.subscribe (omega arith) (omega arith)) (bytes_writable 2 (topic_bytes v.topic) (omega arith) (omega arith))) small,
  sub_says v.subscribe v.topic,
)

message_writable : (v : Message) → AllByRecursion IsWritable (message_records v)
message_writable v = search (rules, all-append, bytes_writable)

pub message_spelled : (v : Message) → Any v → length (records_text (message_records v)) < 2 ^ 64 → Spells SaysMessage (records_text (message_records v)) v
message_spelled v any small = (message_records v, records_spelled (message_records v) (message_writable v) small, message_says v)
