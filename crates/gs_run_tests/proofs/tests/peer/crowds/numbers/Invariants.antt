use Rattle.std.proofs.Common.{◌≤◌}
use Rattle.std.specs.List.{All}
use Rattle.gs_base.specs.declared.names.PeerNo.{PeerNo}
use Rattle.gs_params.specs.Picks.{IsAscending}
use Rattle.gs_run_tests.proofs.tests.peer.crowds.numbers.Given as goal

abbrev pub invariant-loop-below : goal.invariant-loop-below
invariant-loop-below l = record {
  ascending : IsAscending l.numbers.items;
  most : All (λ (q : PeerNo). q.0 ≤ l.below) l.numbers.items;
}
