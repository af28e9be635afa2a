use Rattle.std.proofs.Common.{◌++◌, arith, ◌∙◌}
use Rattle.gs_wire.specs.Fields.{bytes_records, topic_bytes}
use Rattle.gs_wire.proofs.Written.{sum_most}
use Rattle.gs_wire.proofs.message.MessageEncode.encoded_len.Goals as goal

pub returns : goal.returns
returns c =
    let v = c.args.self.now in
    let origin = rw c.shared_bytes_of.ensures at c.optional_len.ensures 1 (omega arith) in
    let payload = rw c.bytes_of.ensures at c.optional_len-2.ensures 2 (omega arith) in
    let seqno = rw c.shared_bytes_of-2.ensures at c.optional_len-3.ensures 3 (omega arith) in
    let topic = rw c.bytes_of_topic.ensures at c.optional_len-4.ensures 4 (omega arith) in
    let signature = rw c.shared_bytes_of-3.ensures at c.optional_len-5.ensures 5 (omega arith) in
    let key = rw c.shared_bytes_of-4.ensures at c.optional_len-6.ensures 6 (omega arith) in
    let upto_payload = c.saturating_add.ensures ∙ sum_most (bytes_records 1 v.origin) (bytes_records 2 v.payload) _ _ _ origin payload in
    let upto_seqno = c.saturating_add-2.ensures ∙ sum_most (bytes_records 1 v.origin ++ bytes_records 2 v.payload) (bytes_records 3 v.seqno) _ _ _ upto_payload seqno in
    let upto_topic = c.saturating_add-3.ensures ∙ sum_most (bytes_records 1 v.origin ++ bytes_records 2 v.payload ++ bytes_records 3 v.seqno) (bytes_records 4 (topic_bytes v.topic)) _ _ _ upto_seqno topic in
    let upto_signature = c.saturating_add-4.ensures ∙ sum_most (bytes_records 1 v.origin ++ bytes_records 2 v.payload ++ bytes_records 3 v.seqno ++ bytes_records 4 (topic_bytes v.topic)) (bytes_records 5 v.signature) _ _ _ upto_topic signature in
    let upto_key = c.saturating_add-5.ensures ∙ sum_most (bytes_records 1 v.origin ++ bytes_records 2 v.payload ++ bytes_records 3 v.seqno ++ bytes_records 4 (topic_bytes v.topic) ++ bytes_records 5 v.signature) (bytes_records 6 v.key) _ _ _ upto_signature key in
    upto_key
