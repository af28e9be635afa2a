use Rattle.std.proofs.Common.{arith}
use Rattle.gs_wire.proofs.Written.{varint_ten}
use Rattle.gs_wire.proofs.sections.write.Goals as goal

pub overflow_add-varint_len : goal.overflow_add-varint_len
overflow_add-varint_len c = omega (arith, c.varint_len.ensures, varint_ten c.args.len, c.requires.fits)
