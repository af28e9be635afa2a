use Rattle.std.proofs.Common.{arith}
use Rattle.gs_wire.proofs.Written.{varint_ten}
use Rattle.gs_wire.proofs.rpc.encode_frame.Goals as goal

pub overflow_add-varint_len : goal.overflow_add-varint_len
overflow_add-varint_len c = omega (arith, c.varint_len.ensures, varint_ten c.in_ok-len.len, c.in_ok-len.ensures.len)
