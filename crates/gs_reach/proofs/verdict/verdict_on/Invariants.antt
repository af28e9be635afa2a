use Rattle.std.proofs.Common.{◌≡◌, drop}
use Rattle.std.specs.Map.{lookup}
use Rattle.gs_base.specs.Names.{same_topic}
use Rattle.gs_rules.specs.Outcomes.{verdict_by}
use Rattle.gs_reach.proofs.verdict.verdict_on.Given as goal

-- the rest of the topics says what all say
abbrev pub invariant-loop-known : goal.invariant-loop-known
invariant-loop-known l = verdict_by (lookup (same_topic l.topic) (drop l.known-index l.topics)) l.payload ≡ verdict_by (lookup (same_topic l.topic) l.topics) l.payload
