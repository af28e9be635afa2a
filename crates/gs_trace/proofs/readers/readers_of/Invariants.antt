use Rattle.std.proofs.Common.{take}
use Rattle.gs_trace.specs.Starts.{StandAt}
use Rattle.gs_trace.proofs.readers.readers_of.Given as goal

-- a reader for each peer so far
abbrev pub invariant-loop-peer : goal.invariant-loop-peer
invariant-loop-peer l = StandAt l.plan 0 0 (take l.peer-index l.peers) l.readers.items
