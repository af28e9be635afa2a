use Rattle.std.proofs.Common.{◌≡◌, ◌++◌, length, take, arith, ap, length-append}
use Rattle.gs_wire.specs.Records.{records_text}
use Rattle.gs_wire.specs.Fields.{len_record, repeated_records}
use Rattle.gs_wire.proofs.Written.{texts-room}
use Rattle.gs_wire.proofs.encoding.put_repeated.Goals as goal

pub put_bytes-requires-clause-room : goal.put_bytes-requires-clause-room
put_bytes-requires-clause-room c =
    let i = c.loop-bytes.bytes-index in
    let values = c.args.values.now in
    let before = records_text (repeated_records c.args.field (take i values)) in
    let written : c.loop-bytes.buffer.items ≡ c.args.buffer.now.items ++ before = c.loop-bytes.invariant.written in
    let room = texts-room (len_record c.args.field) values i c.bytes-item.result c.loop-bytes-test.true in
    rw (c.as_slice.ensures, c.bytes-item.is) (omega (arith, c.requires.room, room, ap length written, length-append c.args.buffer.now.items before, c.loop-bytes.invariant.capacity, c.args.buffer.now.ok, c.loop-bytes.buffer.ok))
