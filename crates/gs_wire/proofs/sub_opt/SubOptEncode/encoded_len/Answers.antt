use Rattle.std.proofs.Common.{arith, ◌∙◌}
use Rattle.gs_wire.specs.Fields.{bool_records, bytes_records, topic_bytes}
use Rattle.gs_wire.proofs.Written.{sum_most}
use Rattle.gs_wire.proofs.sub_opt.SubOptEncode.encoded_len.Goals as goal

pub returns : goal.returns
returns c =
    let v = c.args.self.now in
    let subscribe = rw c.bool_number.ensures at c.number_len.ensures 1 (omega arith) in
    let topic = rw c.bytes_of_topic.ensures at c.optional_len.ensures 2 (omega arith) in
    c.saturating_add.ensures ∙ sum_most (bool_records 1 v.subscribe) (bytes_records 2 (topic_bytes v.topic)) _ _ _ subscribe topic
