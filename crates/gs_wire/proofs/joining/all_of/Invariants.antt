use Rattle.std.proofs.Common.{◌≡◌, take}
use Rattle.std.specs.List.{flat_map}
use Rattle.gs_wire.proofs.joining.all_of.Given as goal

-- the parts of the RPCs so far were added
abbrev pub invariant-loop-rpc : goal.invariant-loop-rpc
invariant-loop-rpc g l = l.parts.items ≡ flat_map (λ r. g.P.Part.parts (g.R.HoldsRpc.held r)) (take l.rpc-index l.rpcs)
