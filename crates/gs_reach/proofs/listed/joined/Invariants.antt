use Rattle.std.proofs.Common.{◌≡◌}
use Rattle.gs_reach.specs.Listed.{joined}
use Rattle.gs_reach.proofs.listed.joined.Given as goal

-- what the parts so far say
abbrev pub invariant-loop-part : goal.invariant-loop-part
invariant-loop-part l =
    (goal.iterator-loop-part).can_next l.part-iterator
    × (goal.iterator-loop-part).is_finite l.part-iterator
    × (l.all.published ≡ (joined l.yielded).published)
    × (l.all.delivered ≡ (joined l.yielded).delivered)
    × (l.all.changes ≡ (joined l.yielded).changes)
    × (l.all.losses ≡ (joined l.yielded).losses)
