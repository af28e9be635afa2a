use Rattle.std.proofs.Common.{◌≡◌, ◌-◌, ◌^◌, min, length, take}
use Rattle.std.specs.List.{flat_map}
use Rattle.gs_wire.proofs.joining.count_of.Given as goal

-- the parts of the RPCs so far were counted
abbrev pub invariant-loop-rpc : goal.invariant-loop-rpc
invariant-loop-rpc g l = l.count ≡ min (2 ^ 64 - 1) (length (flat_map (λ r. g.P.Part.parts (g.R.HoldsRpc.held r)) (take l.rpc-index l.rpcs)))
