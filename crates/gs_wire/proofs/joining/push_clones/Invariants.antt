use Rattle.std.proofs.Common.{◌≡◌, ◌++◌, take}
use Rattle.gs_wire.proofs.joining.push_clones.Given as goal

-- the elements so far were added
abbrev pub invariant-loop-item : goal.invariant-loop-item
invariant-loop-item g l = l.items.items ≡ l.initial.items.items ++ take l.item-index l.more
