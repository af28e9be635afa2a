use Rattle.std.proofs.Common.{◌≡◌}
use Rattle.gs_counts.proofs.Both.{both_up_to}
use Rattle.gs_counts.proofs.counts.Counts.with.Given as goal

-- the places so far are summed
abbrev pub invariant-loop-place : goal.invariant-loop-place
invariant-loop-place l = l.both ≡ both_up_to l.self l.others l.place
