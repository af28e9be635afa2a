use Rattle.std.proofs.Common.{◌≡◌, ◌++◌}
use Rattle.gs_reach.proofs.listed.append.Given as goal

-- those so far come after what was there
abbrev pub invariant-loop-one : goal.invariant-loop-one
invariant-loop-one g l =
    (goal.iterator-loop-one g).can_next l.one-iterator
    × (goal.iterator-loop-one g).is_finite l.one-iterator
    × (l.list ≡ l.initial.list ++ l.yielded)
