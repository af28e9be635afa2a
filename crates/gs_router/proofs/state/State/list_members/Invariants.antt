use Rattle.std.proofs.Common.{◌≡◌, ◌++◌, drop, map}
use Rattle.gs_base.specs.declared.names.PeerNo.{PeerNo}
use Rattle.gs_router.proofs.state.State.list_members.Given as goal

abbrev pub invariant-loop-member : goal.invariant-loop-member
invariant-loop-member g l =
    l.meshes ++ map (λ (q : PeerNo). (l.topic, q)) (drop l.member-index l.member-items)
    ≡ l.initial.meshes ++ map (λ (q : PeerNo). (l.topic, q)) l.member-items
