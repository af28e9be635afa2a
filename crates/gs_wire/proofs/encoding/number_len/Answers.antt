use Rattle.std.proofs.Common.{length, ap, arith}
use Rattle.gs_wire.proofs.Written.{number_text, varint_ten}
use Rattle.gs_wire.proofs.encoding.number_len.Goals as goal

pub overflow_add-result : goal.overflow_add-result
overflow_add-result c = omega (arith, c.varint_len.ensures, varint_ten c.in-Some.number)

pub returns-in-Some : goal.returns-in-Some
returns-in-Some c = λ field small. rw c.in-Some.is (omega (arith, c.varint_len.ensures, varint_ten c.in-Some.number, ap length (number_text field c.in-Some.number small)))
