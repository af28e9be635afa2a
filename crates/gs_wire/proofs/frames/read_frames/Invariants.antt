use Rattle.std.proofs.Common.{◌≡◌, ◌-◌, ◌++◌, List, length, drop}
use Rattle.std.specs.Prelude.{IfSome}
use Rattle.gs_base.specs.declared.rpc.Rpc.{Rpc}
use Rattle.gs_wire.specs.Stream.{IsSpan}
use Rattle.gs_wire.proofs.FrameLists.{ReadFrames}
use Rattle.gs_wire.proofs.frames.read_frames.Given as goal

-- some frames were read and their RPCs added, and the rest is left, whose length may be known
abbrev pub invariant-loop-span : goal.invariant-loop-span
invariant-loop-span l = record {
  read : (found : List Rpc) × ReadFrames l.limit l.bytes l.taken found × (l.rpcs.items ≡ l.initial.rpcs.items ++ found);
  next : IfSome l.next (λ span. IsSpan l.limit (drop l.taken l.bytes) span.start span.end);
}

abbrev pub decreases-loop-span : goal.decreases-loop-span
decreases-loop-span l = length l.bytes - l.taken
