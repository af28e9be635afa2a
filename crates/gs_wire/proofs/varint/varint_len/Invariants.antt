use Rattle.gs_wire.proofs.VarintLoops.{Counts}
use Rattle.gs_wire.proofs.varint.varint_len.Given as goal

abbrev pub invariant-loop-rest : goal.invariant-loop-rest
invariant-loop-rest l = Counts l.number l.len l.rest

abbrev pub decreases-loop-rest : goal.decreases-loop-rest
decreases-loop-rest l = l.rest
