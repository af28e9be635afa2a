-- What is written for records, and how long it is.
use Rattle.std.proofs.Common.{◌≡◌, ℕ, ◌+◌, ◌*◌, ◌<◌, ◌≤◌, List, [], ◌∷◌, ◌++◌, length, map, take, get_or, min, Some, None, ap, ◌∙◌, append-nil, length-append, arith, inl, inr}
use Rattle.std.proofs.lemmas.Bool.{cases_lt}
use Rattle.std.proofs.lemmas.Grind.{flat_map-append}
use Rattle.std.proofs.lemmas.List.{map-append, take_more, map_push}
use Rattle.std.proofs.lemmas.List.Folds.{flat_map-map, length-flat_map-take}
use Rattle.gs_base.specs.declared.names.Topic.{Topic}
use Rattle.gs_wire.specs.Varint.{varint}
use Rattle.gs_wire.specs.Records.{Record, record_text, records_text}
use Rattle.gs_wire.specs.Fields.{len_record, varint_record, number_records, bytes_records, part_records}
use Rattle.gs_wire.specs.Messages.{message_records, body}
use Rattle.gs_base.specs.Rpcs.{publication}
use Rattle.gs_wire.proofs.Varints.{varint_small, written_len}

pub varint_ten : (n : ℕ) → length (varint n) ≤ 10
varint_ten n = written_len 9 n

pub records_text-append : (rs qs : List Record) → records_text (rs ++ qs) ≡ records_text rs ++ records_text qs
records_text-append rs qs = flat_map-append record_text rs qs

pub records_text-single : (r : Record) → records_text (r ∷ []) ≡ record_text r
records_text-single r = append-nil (record_text r)

pub sum_text : (rs qs : List Record) → length (records_text (rs ++ qs)) ≡ length (records_text rs) + length (records_text qs)
sum_text rs qs = ap length (records_text-append rs qs) ∙ length-append (records_text rs) (records_text qs)

-- ---- bytes, in a field whose tag is one byte

pub len_text : (field : ℕ) (bytes : List ℕ) → field < 16 → record_text (len_record field bytes) ≡ (8 * field + 2) ∷ (varint (length bytes) ++ bytes)
len_text field bytes small = ap (λ (t : List ℕ). t ++ (varint (length bytes) ++ bytes)) (varint_small (8 * field + 2) (omega arith))

pub len_text-length : (field : ℕ) (bytes : List ℕ) → field < 16 → length (record_text (len_record field bytes)) ≡ 1 + length (varint (length bytes)) + length bytes
len_text-length field bytes small = omega (arith, ap length (len_text field bytes small), length-append (varint (length bytes)) bytes)

-- the length, up to a bound
pub len_record_most : (field : ℕ) (bytes : List ℕ) (len most : ℕ) → field < 16 → len ≡ min most (length bytes) → min ((1 + length (varint len)) + len) most ≡ min most (length (record_text (len_record field bytes)))
len_record_most field bytes len most small is = elim (cases_lt (length bytes) most) [
  | inl lt ↦
      let same : len ≡ length bytes = omega (arith, is) in
      rw (same, len_text-length field bytes small) (omega arith)
  | inr le ↦
      let full : len ≡ most = omega (arith, is) in
      omega (arith, full, len_text-length field bytes small)
]

pub bytes_text : (field : ℕ) (bytes : List ℕ) → records_text (bytes_records field (Some bytes)) ≡ record_text (len_record field bytes)
bytes_text field bytes = records_text-single (len_record field bytes)

-- ---- a number

pub number_text : (field n : ℕ) → field < 16 → records_text (number_records field (Some n)) ≡ (8 * field) ∷ varint n
number_text field n small =
    let tag : varint (8 * field + 0) ≡ (8 * field) ∷ [] = varint_small (8 * field + 0) (omega arith) ∙ ap (λ (m : ℕ). m ∷ []) (omega arith) in
    append-nil (record_text (varint_record field n)) ∙ ap (λ (t : List ℕ). t ++ varint n) tag

-- ---- parts

-- one record more
pub texts-more : {V : Type 0} (one : V → Record) (vs : List V) (i : ℕ) (d : V) → i < length vs → records_text (map one (take (i + 1) vs)) ≡ records_text (map one (take i vs)) ++ record_text (one (get_or vs i d))
texts-more {V} one vs i d lt =
    ap (λ (t : List V). records_text (map one t)) (take_more vs i d lt) ∙ ap records_text (map_push one (take i vs) (get_or vs i d)) ∙ records_text-append (map one (take i vs)) (one (get_or vs i d) ∷ []) ∙ ap (λ (t : List ℕ). records_text (map one (take i vs)) ++ t) (records_text-single (one (get_or vs i d)))

-- the records so far and the next one are no longer than all
pub texts-room : {V : Type 0} (one : V → Record) (vs : List V) (i : ℕ) (d : V) → i < length vs → length (records_text (map one (take i vs))) + length (record_text (one (get_or vs i d))) ≤ length (records_text (map one vs))
texts-room {V} one vs i d lt =
    rw (flat_map-map record_text one (take i vs), flat_map-map record_text one vs) (length-flat_map-take (λ v. record_text (one v)) vs i d lt)

-- ---- lengths, up to a bound

pub sum_most : (rs qs : List Record) (a b most : ℕ) → a ≡ min most (length (records_text rs)) → b ≡ min most (length (records_text qs)) → min (a + b) most ≡ min most (length (records_text (rs ++ qs)))
sum_most rs qs a b most p q =
    let len : length (records_text (rs ++ qs)) ≡ length (records_text rs) + length (records_text qs) = ap length (records_text-append rs qs) ∙ length-append (records_text rs) (records_text qs) in
    omega (arith, p, q, len)

-- ---- a publication

pub publication_text : (topic : Topic) (payload : List ℕ) → body (publication topic payload) ≡ record_text (len_record 2 (record_text (len_record 2 payload) ++ record_text (len_record 4 topic.0)))
publication_text topic payload =
    let text : records_text (message_records (record { origin = None; payload = Some payload; seqno = None; topic = Some topic; signature = None; key = None })) ≡ record_text (len_record 2 payload) ++ record_text (len_record 4 topic.0) = ap (λ (t : List ℕ). record_text (len_record 2 payload) ++ t) (append-nil (record_text (len_record 4 topic.0))) in
    let message : List ℕ = records_text (message_records (record { origin = None; payload = Some payload; seqno = None; topic = Some topic; signature = None; key = None })) in
    records_text-single (len_record 2 message) ∙ ap (λ (t : List ℕ). record_text (len_record 2 t)) text

-- ---- the parts of two lists

-- the records of the parts of both
pub part_text-append : {V : Type 0} (records_of : V → List Record) (field : ℕ) (vs ws : List V) → records_text (part_records records_of field (vs ++ ws)) ≡ records_text (part_records records_of field vs) ++ records_text (part_records records_of field ws)
part_text-append {V} records_of field vs ws =
    let one = λ (v : V). len_record field (records_text (records_of v)) in
    ap records_text (map-append one vs ws) ∙ records_text-append (map one vs) (map one ws)

-- how long the records of the parts of both are
pub part_length-append : {V : Type 0} (records_of : V → List Record) (field : ℕ) (vs ws : List V) → length (records_text (part_records records_of field (vs ++ ws))) ≡ length (records_text (part_records records_of field vs)) + length (records_text (part_records records_of field ws))
part_length-append records_of field vs ws = ap length (part_text-append records_of field vs ws) ∙ length-append (records_text (part_records records_of field vs)) (records_text (part_records records_of field ws))
