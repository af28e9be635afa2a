use Rattle.std.proofs.Common.{rules, arith, drop, sym, inl}
use Rattle.gs_wire.proofs.Lengths.{length_found, no_length}
use Rattle.gs_wire.proofs.FrameLists.{span_found}
use Rattle.gs_wire.proofs.frames.span_at.Goals as goal

pub returns-else-begins_length-clause-no_length : goal.returns-else-begins_length-clause-no_length
returns-else-begins_length-clause-no_length c = inl (search rules, no_length c.args.bytes.now (sym c.in_default-varint_at.ensures.value))

pub returns-then-len-limit-clause-no_length : goal.returns-then-len-limit-clause-no_length
returns-then-len-limit-clause-no_length c =
    let n = c.in-Some-varint_at.len in
    let start = c.in-Some-varint_at.start in
    (n, drop start c.args.bytes.now, length_found c.args.bytes.now n (drop start c.args.bytes.now) (sym c.in-Some-varint_at.ensures.value), search rules)

pub returns-clause-found : goal.returns-clause-found
returns-clause-found c =
    let n = c.in-Some-varint_at.len in
    let start = c.in-Some-varint_at.start in
    span_found c.args.limit c.args.bytes.now n start (length_found c.args.bytes.now n (drop start c.args.bytes.now) (sym c.in-Some-varint_at.ensures.value)) c.in-Some-varint_at.ensures.within (omega arith)
