use Rattle.std.proofs.Common.{◌++◌, ◌∙◌, List, filter, map, ap, ap₂}
use Rattle.gs_base.specs.declared.names.PeerNo.{PeerNo}
use Rattle.gs_base.specs.declared.names.Topic.{Topic}
use Rattle.gs_base.specs.declared.mark.Mark.{Mark}
use Rattle.gs_base.specs.declared.mark.Mark.TheVariants.{Unfanned}
use Rattle.gs_mesh.specs.Peers.{is_among}
use Rattle.gs_rules.specs.Membership.{leaving, meshes_with}
use Rattle.gs_rules.specs.Meshes.{fanout}
use Rattle.gs_router.specs.Known.{peer_with}
use Rattle.gs_router.proofs.entries.departures.losing_marks.Goals as goal

pub returns : goal.returns
returns c = λ L knows.
    let p = peer_with c.args.known.now.setup in
    let q = c.args.peer in
    let topics = c.in_ok-topics.ensures L knows.agrees.mesh_topics in
    let left = c.as_slice-2.ensures.value ∙ c.in_ok-left.ensures L knows.agrees ∙ ap (meshes_with L q) (c.as_slice.ensures.value ∙ topics) in
    let fanned = c.as_slice-3.ensures.value ∙ topics in
    let gone = c.in_ok-leave.ensures L knows ∙ ap₂ (λ (start : List Mark) (pairs : List (PeerNo × Topic)). start ++ leaving p L c.args.now.0 pairs) c.new-marks.ensures left in
    c.in_ok-unfan_everywhere.ensures L knows.agrees
    ∙ ap₂ (λ (ms : List Mark) (ts : List Topic). ms ++ map (Unfanned q) (filter (λ (t : Topic). is_among (fanout L t) q) ts)) gone fanned
