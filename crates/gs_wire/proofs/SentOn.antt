-- How long what peers send on is: a message by itself, offers and requests.
use Rattle.std.proofs.Common.{◌≡◌, ℕ, zero, suc, ◌+◌, ◌*◌, ◌<◌, ◌≤◌, List, [], ◌∷◌, ◌++◌, length, min, refl, ap, length-append, arith}
use Rattle.std.specs.Prelude.{option_to_list}
use Rattle.std.specs.List.{AllByRecursion, IsAmong}
use Rattle.gs_base.specs.declared.names.Topic.{Topic}
use Rattle.gs_base.specs.declared.rpc.Message.{Message}
use Rattle.gs_base.specs.declared.rpc.Rpc.{Rpc}
use Rattle.gs_base.specs.Names.{longest_topic, HasIdentifierLength}
use Rattle.gs_wire.specs.Varint.{varint}
use Rattle.gs_wire.specs.Records.{Record, records_text}
use Rattle.gs_wire.specs.Fields.{len_record, part_records, repeated_records, varint_record}
use Rattle.gs_wire.specs.Controls.{control_records}
use Rattle.gs_wire.specs.Messages.{body, longest_body, message_records, sub_records}
use Rattle.gs_base.specs.Rpcs.{grafting, longest_backoff, most_identifiers, offering, passed_on, pruning, requesting}
use Rattle.gs_wire.proofs.Written.{len_text-length, records_text-single, sum_text, varint_ten}

-- ---- a message by itself

-- what one part takes, all parts take
one_part : {V : Type 0} (records_of : V → List Record) (field : ℕ) (vs : List V) (v : V) → IsAmong vs v
    → length (records_text (part_records records_of field (v ∷ []))) ≤ length (records_text (part_records records_of field vs))
one_part records_of field [] v (i, (below, is)) = absurd (omega (arith, below))
one_part records_of field (w ∷ vs) v (zero, (below, is)) =
    rw is (omega (arith, sum_text (part_records records_of field (w ∷ [])) (part_records records_of field vs)))
one_part records_of field (w ∷ vs) v (suc i, (below, is)) =
    omega (arith, one_part records_of field vs v (i, (omega (arith, below), is)), sum_text (part_records records_of field (w ∷ [])) (part_records records_of field vs))

pub passed_on_shorter : (v : Rpc) (m : Message) → IsAmong v.publish m → length (body (passed_on m)) ≤ length (body v)
passed_on_shorter v m among =
    let A = part_records sub_records 1 v.subs in
    let B = part_records message_records 2 v.publish in
    let C = part_records control_records 3 (option_to_list v.control) in
    let alone : length (body (passed_on m)) ≡ length (records_text (part_records message_records 2 (m ∷ []))) = refl in
    omega (arith, alone, one_part message_records 2 v.publish m among, sum_text A B, sum_text (A ++ B) C)

-- ---- offers and requests

-- a record of bytes takes at most eleven bytes more
len_room : (field : ℕ) (bytes : List ℕ) → field < 16 → length (records_text (len_record field bytes ∷ [])) ≤ 11 + length bytes
len_room field bytes small = omega (arith, ap length (records_text-single (len_record field bytes)), len_text-length field bytes small, varint_ten (length bytes))

-- identifiers take at most 43 bytes each
ids_room : (field : ℕ) (ids : List (List ℕ)) → field < 16 → AllByRecursion HasIdentifierLength ids → length (records_text (repeated_records field ids)) ≤ 43 * length ids
ids_room field [] small all = omega arith
ids_room field (id ∷ ids) small all = omega (arith, len_room field id small, all.0, ids_room field ids small all.1, sum_text (len_record field id ∷ []) (repeated_records field ids))

-- control of one part takes at most 22 bytes more than the part
control_room : (field : ℕ) (bytes : List ℕ) → field < 16 → length (records_text (len_record 3 (records_text (len_record field bytes ∷ [])) ∷ [])) ≤ 22 + length bytes
control_room field bytes small = omega (arith, len_room 3 (records_text (len_record field bytes ∷ [])) (omega arith), len_room field bytes small)

pub request_fits : (ids : List (List ℕ)) → length ids ≤ most_identifiers → AllByRecursion HasIdentifierLength ids → length (body (requesting ids)) ≤ longest_body
request_fits ids few all =
    omega (arith, control_room 2 (records_text (repeated_records 1 ids)) (omega arith), ids_room 1 ids (omega arith) all, few)

pub offer_fits : (topic : Topic) (ids : List (List ℕ)) → length topic.0 ≤ longest_topic → length ids ≤ most_identifiers → AllByRecursion HasIdentifierLength ids → length (body (offering topic ids)) ≤ longest_body
offer_fits topic ids short few all =
    let named = len_record 1 topic.0 ∷ [] in
    let listed = repeated_records 2 ids in
    omega (arith, control_room 1 (records_text (named ++ listed)) (omega arith), sum_text named listed, len_room 1 topic.0 (omega arith), short, ids_room 2 ids (omega arith) all, few)

-- ---- what is said of meshes

pub graft_fits : (topic : Topic) → length topic.0 ≤ longest_topic → length (body (grafting topic)) ≤ longest_body
graft_fits topic short =
    omega (arith, control_room 3 (records_text (len_record 1 topic.0 ∷ [])) (omega arith), len_room 1 topic.0 (omega arith), short)

-- a record of a number takes ten bytes at most, and so does its tag
number_room : (field n : ℕ) → length (records_text (varint_record field n ∷ [])) ≤ 20
number_room field n =
    omega (arith, ap length (records_text-single (varint_record field n)), length-append (varint (8 * field + 0)) (varint n), varint_ten (8 * field + 0), varint_ten n)

pub prune_fits : (topic : Topic) (seconds : ℕ) → length topic.0 ≤ longest_topic → length (body (pruning topic seconds)) ≤ longest_body
prune_fits topic seconds short =
    let named = len_record 1 topic.0 ∷ [] in
    let counted = varint_record 3 (min seconds longest_backoff) ∷ [] in
    omega (arith, control_room 4 (records_text (named ++ counted)) (omega arith), sum_text named counted, len_room 1 topic.0 (omega arith), number_room 3 (min seconds longest_backoff), short)
