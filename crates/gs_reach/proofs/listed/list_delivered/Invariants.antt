use Rattle.std.proofs.Common.{◌≡◌, ◌++◌, take}
use Rattle.gs_reach.specs.Listed.{delivered_by}
use Rattle.gs_reach.proofs.listed.list_delivered.Given as goal

-- the deliveries so far come after what was there
abbrev pub invariant-loop-topic : goal.invariant-loop-topic
invariant-loop-topic l = l.list ≡ l.initial.list ++ delivered_by l.peer l.at (take l.topic-index l.delivered)
