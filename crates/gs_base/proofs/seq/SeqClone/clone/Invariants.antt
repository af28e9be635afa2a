use Rattle.std.proofs.Common.{◌≡◌, take}
use Rattle.gs_base.proofs.seq.SeqClone.clone.Given as goal

-- the copies are the items so far
abbrev pub invariant-loop-item : goal.invariant-loop-item
invariant-loop-item g l = l.items.items ≡ take l.item-index l.item-items
