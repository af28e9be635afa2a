use Rattle.std.proofs.Common.{◌≡◌, drop}
use Rattle.gs_picture.specs.Topics.{first_topic}
use Rattle.gs_picture.proofs.topic.first_topic.Given as goal

-- the lines that are left first subscribe to what all do
abbrev pub invariant-loop-line : goal.invariant-loop-line
invariant-loop-line l = first_topic l.script ≡ first_topic (drop l.line-index l.script)
