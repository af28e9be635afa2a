use Rattle.std.proofs.Common.{arith, ◌∙◌}
use Rattle.gs_wire.specs.Fields.{bytes_records, topic_bytes, repeated_records}
use Rattle.gs_wire.proofs.Written.{sum_most}
use Rattle.gs_wire.proofs.control.IHaveEncode.encoded_len.Goals as goal

pub returns : goal.returns
returns c =
    let v = c.args.self.now in
    let topic = rw c.bytes_of_topic.ensures at c.optional_len.ensures 1 (omega arith) in
    let ids = rw c.as_slice.ensures at c.repeated_len.ensures 2 (omega arith) in
    c.saturating_add.ensures ∙ sum_most (bytes_records 1 (topic_bytes v.topic)) (repeated_records 2 v.ids) _ _ _ topic ids
