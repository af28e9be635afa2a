use Rattle.std.proofs.Common.{arith, ◌∙◌}
use Rattle.gs_wire.specs.Fields.{bytes_records, topic_bytes, number_records}
use Rattle.gs_wire.proofs.Written.{sum_most}
use Rattle.gs_wire.proofs.control.PruneEncode.encoded_len.Goals as goal

pub returns : goal.returns
returns c =
    let v = c.args.self.now in
    let topic = rw c.bytes_of_topic.ensures at c.optional_len.ensures 1 (omega arith) in
    c.saturating_add.ensures ∙ sum_most (bytes_records 1 (topic_bytes v.topic)) (number_records 3 v.backoff) _ _ _ topic (c.number_len.ensures 3 (omega arith))
