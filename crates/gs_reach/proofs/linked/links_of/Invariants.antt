use Rattle.std.proofs.Common.{take}
use Rattle.gs_reach.specs.Tables.{AreLinks}
use Rattle.gs_reach.proofs.linked.links_of.Given as goal

-- as the dials so far say
abbrev pub invariant-loop-dial : goal.invariant-loop-dial
invariant-loop-dial l = AreLinks (take l.dial-index l.dials) l.losses l.links
