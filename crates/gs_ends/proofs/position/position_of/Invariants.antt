use Rattle.std.proofs.Common.{◌≡◌, ◌+◌, true, drop}
use Rattle.std.specs.List.{list_any}
use Rattle.gs_ends.specs.Pairs.{is_of, position_in}
use Rattle.gs_ends.proofs.position.position_of.Given as goal

abbrev pub invariant-loop-i : goal.invariant-loop-i
invariant-loop-i g l = (list_any (is_of l.fn.who) (drop l.i l.list) ≡ true) × (position_in l.list l.fn.who ≡ l.i + position_in (drop l.i l.list) l.fn.who)
