use Rattle.std.proofs.Common.{◌≡◌, ◌≤◌, ◌*◌, ◌^◌, unsigned_abs, drop, ◌+ℤ◌}
use Rattle.std.specs.Map.{keys_of}
use Rattle.gs_score.specs.Accounts.{held_in, topic_sum}
use Rattle.gs_score.proofs.topic_standings.sum_of.Given as goal

abbrev pub invariant-loop-place : goal.invariant-loop-place
invariant-loop-place l = record {
  rest
      : l.sum +ℤ topic_sum l.rulebook l.now.0 (held_in l.rulebook l.decays l.standings.entries) (keys_of (drop l.place l.standings.entries))
      ≡ topic_sum l.rulebook l.now.0 (held_in l.rulebook l.decays l.standings.entries) (keys_of l.standings.entries);
  bound : unsigned_abs l.sum ≤ l.place * 10 ^ 25;
}
