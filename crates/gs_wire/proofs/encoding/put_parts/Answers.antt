use Rattle.std.proofs.Common.{◌≡◌, ◌++◌, length, take, arith, ap, length-append}
use Rattle.gs_wire.specs.Records.{records_text}
use Rattle.gs_wire.specs.Fields.{len_record, part_records}
use Rattle.gs_wire.proofs.Written.{texts-room}
use Rattle.gs_wire.proofs.encoding.put_parts.Goals as goal

pub put_sized_part-requires-clause-room : goal.put_sized_part-requires-clause-room
put_sized_part-requires-clause-room g c =
    let i = c.loop-part.part-index in
    let parts = c.args.parts.now in
    let before = records_text (part_records g.M.Encode.records c.args.field (take i parts)) in
    let written : c.loop-part.buffer.items ≡ c.args.buffer.now.items ++ before = c.loop-part.invariant.written in
    let room = texts-room (λ v. len_record c.args.field (records_text (g.M.Encode.records v))) parts i c.part-item.result c.loop-part-test.true in
    rw c.part-item.is (omega (arith, c.requires.room, room, ap length written, length-append c.args.buffer.now.items before, c.loop-part.invariant.capacity, c.args.buffer.now.ok, c.loop-part.buffer.ok))
