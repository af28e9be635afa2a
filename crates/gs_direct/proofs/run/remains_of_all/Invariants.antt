use Rattle.std.proofs.Common.{◌≡◌, false, map}
use Rattle.std.specs.List.{AllByRecursion}
use Rattle.gs_base.specs.declared.names.PeerNo.{PeerNo}
use Rattle.gs_report.specs.declared.finished.Finished.{Finished}
use Rattle.gs_direct.specs.declared.peer.Peer.{Peer}
use Rattle.gs_report.specs.Seen.{remains_of}
use Rattle.gs_direct.specs.Runs.{numbered}
use Rattle.gs_direct.proofs.run.remains_of_all.Given as goal

-- what is left of those so far
abbrev pub invariant-loop-peer : goal.invariant-loop-peer
invariant-loop-peer l =
    (goal.iterator-loop-peer).can_next l.peer-iterator
    × (goal.iterator-loop-peer).is_finite l.peer-iterator
    × (l.all.items ≡ map (λ (x : PeerNo × Finished). (x.0, remains_of x.1)) (map (numbered l.plan) l.yielded))
    × AllByRecursion (λ (peer : Peer _). peer.router.is_stopped ≡ false) l.peer-iterator.rest.items
