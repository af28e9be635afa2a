use Rattle.std.proofs.Common.{◌≡◌, ◌+◌, ◌<◌, ◌-◌, ◌^◌, ◌++◌, List, ℕ, length, min, refl, arith, rules, ap, sym, ◌∙◌, length-append}
use Rattle.gs_wire.specs.Records.{record_text}
use Rattle.gs_wire.specs.Fields.{len_record}
use Rattle.gs_wire.proofs.Written.{varint_ten, len_text-length, publication_text}
use Rattle.gs_wire.proofs.rpc.publish_len.Goals as goal

-- a record of bytes that fit in memory
exact : (field : ℕ) (bytes : List ℕ) (len n : ℕ) → field < 16 → length bytes < 2 ^ 63 + 2 ^ 62 → len ≡ length bytes → ((f : ℕ) (b : List ℕ) → f < 16 → len ≡ min (2 ^ 64 - 1) (length b) → n ≡ min (2 ^ 64 - 1) (length (record_text (len_record f b)))) → n ≡ length (record_text (len_record field bytes))
exact field bytes len n low small is told =
    let most = told field bytes low (omega (arith, small, is)) in
    omega (arith, most, small, len_text-length field bytes low, varint_ten (length bytes))

pub overflow_add-len_record_len : goal.overflow_add-len_record_len
overflow_add-len_record_len c =
    let small : length c.args.payload.now < 2 ^ 63 = search rules in
    let payload = exact 2 c.args.payload.now (length c.args.payload.now) c.len_record_len.result (omega arith) (omega arith) refl c.len_record_len.ensures in
    let topic = exact 4 c.args.topic.now.0 c.len.result c.len_record_len-2.result (omega arith) (omega (arith, c.requires)) c.len.ensures.value c.len_record_len-2.ensures in
    omega (arith, small, c.requires, payload, topic, len_text-length 2 c.args.payload.now (omega arith), len_text-length 4 c.args.topic.now.0 (omega arith), varint_ten (length c.args.payload.now), varint_ten (length c.args.topic.now.0))

pub returns : goal.returns
returns c =
    let small : length c.args.payload.now < 2 ^ 63 = search rules in
    let payload = exact 2 c.args.payload.now (length c.args.payload.now) c.len_record_len.result (omega arith) (omega arith) refl c.len_record_len.ensures in
    let topic = exact 4 c.args.topic.now.0 c.len.result c.len_record_len-2.result (omega arith) (omega (arith, c.requires)) c.len.ensures.value c.len_record_len-2.ensures in
    let front = record_text (len_record 2 c.args.payload.now) in
    let back = record_text (len_record 4 c.args.topic.now.0) in
    let whole = length-append front back in
    let short : length (front ++ back) < 2 ^ 63 + 2 ^ 62 = omega (arith, whole, small, c.requires, len_text-length 2 c.args.payload.now (omega arith), len_text-length 4 c.args.topic.now.0 (omega arith), varint_ten (length c.args.payload.now), varint_ten (length c.args.topic.now.0)) in
    exact 2 (front ++ back) (c.len_record_len.result + c.len_record_len-2.result) c.len_record_len-3.result (omega arith) short (omega (arith, whole, payload, topic)) c.len_record_len-3.ensures ∙ sym (ap length (publication_text c.args.topic.now c.args.payload.now))
