use Rattle.std.proofs.Common.{◌≡◌, take}
use Rattle.gs_reach.specs.Filed.{FilesPublished}
use Rattle.gs_reach.specs.Messages.{firsts}
use Rattle.gs_reach.proofs.firsts.firsts.Given as goal

-- the publications so far are filed, and the first ones among them are listed
abbrev pub invariant-loop-one : goal.invariant-loop-one
invariant-loop-one l = record {
  filed : FilesPublished l.filed (take l.one-index l.published);
  listed : l.firsts.items ≡ firsts (take l.one-index l.published);
}
