use Rattle.std.proofs.Common.{arith}
use Rattle.gs_counts.proofs.Prefixes.{one_byte, three_bytes, two_bytes}
use Rattle.gs_counts.proofs.lengths.prefix_len.Goals as goal

pub returns-then-body-lt128-clause-len : goal.returns-then-body-lt128-clause-len
returns-then-body-lt128-clause-len c = one_byte c.args.body c.if-body-lt128.true

pub returns-then-body-lt16384-clause-len : goal.returns-then-body-lt16384-clause-len
returns-then-body-lt16384-clause-len c = two_bytes c.args.body (omega (arith, c.if-body-lt128.false)) c.if-body-lt16384.true

pub returns-clause-len : goal.returns-clause-len
returns-clause-len c = three_bytes c.args.body (omega (arith, c.if-body-lt16384.false)) (omega (arith, c.requires))
