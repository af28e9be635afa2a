use Rattle.std.proofs.Common.{arith}
use Rattle.gs_wire.proofs.VarintLoops.{counts_start, counts_step, counts_end}
use Rattle.gs_wire.proofs.varint.varint_len.Goals as goal

pub loop-rest-init : goal.loop-rest-init
loop-rest-init c = counts_start c.args.number (omega arith)

pub loop-rest-preserved : goal.loop-rest-preserved
loop-rest-preserved c = counts_step c.args.number c.loop-rest.len c.loop-rest.rest (omega arith) c.loop-rest.invariant

pub returns : goal.returns
returns c = counts_end c.args.number c.loop-rest.len c.loop-rest.rest (omega arith) c.loop-rest.invariant
