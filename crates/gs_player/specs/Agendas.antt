-- Which lines are kept for a round.
use Rattle.std.specs.Prelude.{ℕ, List, [], Some, None, nat_eq}
use Rattle.std.specs.Map.{lookup}
use Rattle.std.specs.declared.vec.Vec.{Vec}
use Rattle.std.specs.declared.alloc.Global.{Global}
use Rattle.indexmap.specs.IndexMap.{IndexMap}
use Rattle.gs_plan.specs.declared.plan.Line.{Line}

-- the lines that are found for round r, or none where nothing is found
abbrev pub lines_at : {S : Type 0} → IndexMap ℕ (Vec (ℕ × Line) Global) S → ℕ → List (ℕ × Line)
lines_at rounds r = elim (lookup (nat_eq r) rounds.entries) [ None ↦ [] | Some lines ↦ lines.items ]
