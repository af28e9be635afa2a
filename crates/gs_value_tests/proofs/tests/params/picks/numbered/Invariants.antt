use Rattle.std.proofs.Common.{◌+◌, ◌<◌}
use Rattle.std.specs.Prelude.{All}
use Rattle.gs_params.specs.Picks.{IsAscending}
use Rattle.gs_value_tests.proofs.tests.params.picks.numbered.Given as goal

abbrev pub invariant-loop-i : goal.invariant-loop-i
invariant-loop-i l = record {
  ascending : IsAscending l.peers.items;
  below : All (λ p. p.0 < l.i + 1) l.peers.items;
}
