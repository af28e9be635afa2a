use Rattle.std.proofs.Common.{◌≡◌, drop}
use Rattle.std.specs.Map.{lookup}
use Rattle.gs_base.specs.Names.{same_topic}
use Rattle.gs_score.proofs.rulebook.found.Given as goal

abbrev pub invariant-loop-place : goal.invariant-loop-place
invariant-loop-place l = lookup (same_topic l.topic) (drop l.place l.rules.entries) ≡ lookup (same_topic l.topic) l.rules.entries
