use Rattle.std.proofs.Common.{take}
use Rattle.gs_reach.specs.Filed.{FilesPublished}
use Rattle.gs_reach.proofs.catalogue.file_published.Given as goal

-- those so far are filed
abbrev pub invariant-loop-one : goal.invariant-loop-one
invariant-loop-one l = FilesPublished l.filed (take l.one-index l.all)
