use Rattle.std.proofs.Common.{take}
use Rattle.gs_reach.specs.Filed.{FilesDelivered}
use Rattle.gs_reach.proofs.catalogue.file_delivered.Given as goal

-- those so far are filed
abbrev pub invariant-loop-one : goal.invariant-loop-one
invariant-loop-one l = FilesDelivered l.filed (take l.one-index l.all)
