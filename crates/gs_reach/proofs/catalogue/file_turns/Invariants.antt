use Rattle.std.proofs.Common.{take}
use Rattle.gs_reach.specs.Filed.{FilesTurns}
use Rattle.gs_reach.proofs.catalogue.file_turns.Given as goal

-- those so far are filed
abbrev pub invariant-loop-one : goal.invariant-loop-one
invariant-loop-one l = FilesTurns l.filed (take l.one-index l.all)
