use Rattle.std.proofs.Common.{map, take}
use Rattle.std.specs.Prelude.{option_map}
use Rattle.gs_check.specs.Near.{IsNearestSoFar}
use Rattle.gs_check.proofs.reasons.keys.nearest.Given as goal

-- the nearest of those that were looked at
abbrev pub invariant-loop-name : goal.invariant-loop-name
invariant-loop-name l =
    IsNearestSoFar l.key (map (λ name. name.now) (take l.name-index l.known)) (option_map (λ name. name.now) l.nearest.name) l.nearest.edits
