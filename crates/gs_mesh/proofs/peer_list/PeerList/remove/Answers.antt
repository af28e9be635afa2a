use Rattle.std.proofs.Common.{◌<◌}
use Rattle.std.specs.Prelude.{not}
use Rattle.std.proofs.lemmas.List.Kept.{AllPairs-filter}
use Rattle.gs_base.specs.declared.names.PeerNo.{PeerNo}
use Rattle.gs_base.specs.Names.{same_peer}
use Rattle.gs_mesh.proofs.peer_list.PeerList.remove.Goals as goal

pub invariant_of-self : goal.invariant_of-self
invariant_of-self c =
    rw c.keep_others.ensures
    (AllPairs-filter (λ (p q : PeerNo). p.0 < q.0) (λ (q : PeerNo). not (same_peer c.args.peer q)) c.self.inside.peers.items c.self.invariant)
