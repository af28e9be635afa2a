use Rattle.std.proofs.Common.{◌∙◌, List, ap, sym, subst}
use Rattle.gs_mesh.specs.declared.members.Member.{Member}
use Rattle.gs_params.specs.Picks.{IsAscending}
use Rattle.gs_mesh.specs.Cuts.{outside, peers_of}
use Rattle.gs_mesh.specs.MeshSteps.{above_median}
use Rattle.gs_mesh.proofs.MemberLists.{above_median_ascend, outside_ascend}
use Rattle.gs_mesh.proofs.heartbeat.Heartbeat.opportunistic_grafts.Goals as goal

pub pick_of-requires : goal.pick_of-requires
pick_of-requires g c =
    let others = c.deref.ensures.value ∙ c.in_ok-others.ensures in
    let are = c.deref-2.ensures.value ∙ c.in_ok-better.ensures ∙ ap (above_median c.args.members.now) others in
    subst (λ (ms : List Member). IsAscending (peers_of ms)) (sym are)
    (above_median_ascend c.args.members.now (outside c.args.grafted.now c.args.candidates.now) (outside_ascend c.args.grafted.now c.args.candidates.now c.requires.candidates))
