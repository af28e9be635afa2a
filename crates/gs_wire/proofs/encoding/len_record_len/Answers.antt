use Rattle.std.proofs.Common.{arith}
use Rattle.gs_wire.proofs.Written.{varint_ten, len_record_most}
use Rattle.gs_wire.proofs.encoding.len_record_len.Goals as goal

pub overflow_add-varint_len : goal.overflow_add-varint_len
overflow_add-varint_len c = omega (arith, c.varint_len.ensures, varint_ten c.args.len)

pub returns : goal.returns
returns c = λ field bytes small is. rw (c.saturating_add.ensures, c.varint_len.ensures) (len_record_most field bytes c.args.len _ small is)
