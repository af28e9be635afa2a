use Rattle.std.proofs.Common.{◌∙◌, List, ap, ap₂}
use Rattle.std.specs.Prelude.{ℤ}
use Rattle.gs_base.specs.declared.names.PeerNo.{PeerNo}
use Rattle.gs_base.specs.declared.names.Topic.{Topic}
use Rattle.gs_rules.specs.declared.refusal.RefusedLine.{RefusedLine}
use Rattle.gs_report.specs.declared.remains.Remains.{Remains}
use Rattle.gs_direct.specs.Peers.{left_of}
use Rattle.gs_direct.proofs.peer.Peer.remains.Goals as goal

abbrev made : List RefusedLine → List (Topic × PeerNo) → List (PeerNo × ℤ) → Remains
made refused meshes scores = record { refused = refused; meshes = meshes; scores = scores }

pub returns : goal.returns
returns g c =
    let left = left_of c.args.now c.args.self in
    ap (λ (refused : List RefusedLine). made refused c.in_ok-meshes.meshes c.in_ok-scores.scores) c.from.ensures
    ∙ ap₂ (made left.refused) (c.in_ok-meshes.ensures c.requires) (c.in_ok-scores.ensures c.requires)
