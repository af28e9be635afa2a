use Rattle.std.proofs.Common.{◌≡◌, vec_capacity}
use Rattle.gs_wire.proofs.VarintLoops.{Writes}
use Rattle.gs_wire.proofs.varint.put_varint.Given as goal

abbrev pub invariant-loop-rest : goal.invariant-loop-rest
invariant-loop-rest l = record {
  writes : Writes l.number l.initial.buffer.items l.buffer.items l.rest;
  capacity : vec_capacity l.buffer ≡ vec_capacity l.initial.buffer;
}

abbrev pub decreases-loop-rest : goal.decreases-loop-rest
decreases-loop-rest l = l.rest
