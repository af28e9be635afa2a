use Rattle.std.specs.Prelude.{nat_eq, ◌&&◌}
use Rattle.std.proofs.Common.{◌≡◌, take}
use Rattle.std.specs.List.{list_any}
use Rattle.gs_base.specs.declared.names.PeerNo.{PeerNo}
use Rattle.gs_base.specs.Names.{same_peer}
use Rattle.gs_reach.specs.declared.listed.Arrival.{Arrival}
use Rattle.gs_reach.specs.Tables.{cell}
use Rattle.gs_reach.proofs.tables.publishers_at.Given as goal

-- who publishes, of those so far
abbrev pub invariant-loop-arrival : goal.invariant-loop-arrival
invariant-loop-arrival l = (q : PeerNo) →
    cell l.table q ≡ list_any (λ (x : Arrival). nat_eq x.at.0 l.at.0 && same_peer x.peer q) (take l.arrival-index l.published)
