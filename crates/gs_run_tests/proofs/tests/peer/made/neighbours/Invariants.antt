use Rattle.std.proofs.Common.{◌≡◌, ◌≤◌, ◌^◌, unsigned_abs, take}
use Rattle.std.specs.List.{All}
use Rattle.gs_base.specs.declared.neighbour.Neighbour.{Neighbour}
use Rattle.gs_base.specs.Names.{peers_of}
use Rattle.gs_run_tests.proofs.tests.peer.made.neighbours.Given as goal

abbrev pub invariant-loop-number : goal.invariant-loop-number
invariant-loop-number l = record {
  peers : peers_of l.list.items ≡ take l.number-index l.numbers;
  apps : All (λ (n : Neighbour). unsigned_abs n.app ≤ 10 ^ 12) l.list.items;
}
