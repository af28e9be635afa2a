use Rattle.std.proofs.Common.{◌≤◌, ◌^◌, unsigned_abs}
use Rattle.std.specs.List.{All}
use Rattle.gs_base.specs.declared.names.PeerNo.{PeerNo}
use Rattle.gs_base.specs.declared.neighbour.Neighbour.{Neighbour}
use Rattle.gs_base.specs.Names.{peers_of}
use Rattle.gs_params.specs.Picks.{IsAscending}
use Rattle.gs_router_testkit.proofs.routers.neighbours.Given as goal

abbrev pub invariant-loop-below : goal.invariant-loop-below
invariant-loop-below l = record {
  ascending : IsAscending (peers_of l.list.items);
  most : All (λ (q : PeerNo). q.0 ≤ l.below) (peers_of l.list.items);
  apps : All (λ (n : Neighbour). unsigned_abs n.app ≤ 10 ^ 12) l.list.items;
}
