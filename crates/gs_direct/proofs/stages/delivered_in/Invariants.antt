use Rattle.std.proofs.Common.{◌≡◌, take}
use Rattle.gs_direct.specs.Stages.{delivered_in, saturated}
use Rattle.gs_direct.proofs.stages.delivered_in.Given as goal

-- what was delivered in those so far
abbrev pub invariant-loop-entry : goal.invariant-loop-entry
invariant-loop-entry l = l.all ≡ saturated (delivered_in (take l.entry-index l.entries))
