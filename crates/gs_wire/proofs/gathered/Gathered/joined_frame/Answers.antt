use Rattle.std.proofs.Common.{◌+◌, ◌-◌, ◌^◌, arith}
use Rattle.gs_wire.specs.Joining.{joined_rpcs}
use Rattle.gs_wire.specs.Gathering.{as_one}
use Rattle.gs_wire.proofs.Gathering.{measured_length}
use Rattle.gs_wire.proofs.Written.{varint_ten}
use Rattle.gs_wire.proofs.gathered.Gathered.joined_frame.Goals as goal

pub overflow_add-varint_len : goal.overflow_add-varint_len
overflow_add-varint_len c =
    let v = as_one (joined_rpcs c.self.inside.parts.items) in
    let len = measured_length v c.self.inside.plain c.control_record_len.result (2 ^ 64 - 1) c.self.inside.control c.self.invariant c.control_record_len.ensures (omega arith) in
    omega (arith, len, c.self.invariant.fits, c.varint_len.ensures, varint_ten (c.self.inside.plain + c.control_record_len.result))
