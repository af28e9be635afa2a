-- What is shown of each peer: how others score it, and whether it is subscribed to the topic at the end.
use Rattle.std.specs.Prelude.{Bool, ◌&&◌, ℤ, pos, int_lt, if◌then◌else◌, List, filter, fold, map, Option, Some, None}
use Rattle.std.specs.Int.{int_min}
use Rattle.std.specs.List.{flat_map, list_any}
use Rattle.gs_base.specs.declared.names.PeerNo.{PeerNo}
use Rattle.gs_base.specs.declared.names.Topic.{Topic}
use Rattle.gs_base.specs.Names.{same_peer}
use Rattle.gs_params.specs.declared.params.Thresholds.{Thresholds}
use Rattle.gs_rules.specs.Tables.{joined}
use Rattle.gs_report.specs.declared.finished.Finished.{Finished}
use Rattle.gs_reach.specs.declared.chosen.Chosen.{Chosen}
use Rattle.gs_reach.specs.Chosen.{is_chosen}
use Rattle.gs_picture.specs.declared.discs.Class.{Class}
use Rattle.gs_picture.specs.declared.discs.Class.TheVariants.{Fair, BelowZero, BelowGossip, BelowPublish, BelowGraylist, Unscored}
use Rattle.gs_picture.specs.declared.discs.Disc.{Disc}

-- ---- scores

-- those of these scores that a peer has
abbrev pub scores_about : PeerNo → List (PeerNo × ℤ) → List ℤ
scores_about p scores = map (λ x. x.1) (filter (λ x. same_peer x.0 p) scores)

-- the scores that a peer's neighbours, among some peers, give it at the end
abbrev pub scores_of : Chosen → List (PeerNo × Finished) → PeerNo → List ℤ
scores_of of peers p =
    flat_map (λ (x : PeerNo × Finished). scores_about p x.1.scores)
    (filter (λ (x : PeerNo × Finished). is_chosen of x.0) peers)

-- the lower of two scores, where the first may be absent
abbrev pub lower : Option ℤ → ℤ → Option ℤ
lower None z = Some z
lower (Some y) z = Some (int_min y z)

-- the lowest of these, where there are any
abbrev pub lowest : List ℤ → Option ℤ
lowest zs = fold lower None zs

-- ---- classes

-- the class of a score, in millionths, by the thresholds that all peers have
abbrev pub class_by : Thresholds → ℤ → Class
class_by t z =
    if int_lt z t.graylist_threshold then BelowGraylist
    else if int_lt z t.publish_threshold then BelowPublish
    else if int_lt z t.gossip_threshold then BelowGossip
    else if int_lt z (pos 0) then BelowZero
    else Fair

-- the class of a peer by the lowest score that it has
abbrev pub class_of : Thresholds → Option ℤ → Class
class_of t None = Unscored
class_of t (Some z) = class_by t z

-- ---- discs

-- a peer with a number is subscribed to a topic at the end
abbrev pub is_joined : Topic → PeerNo → PeerNo × Finished → Bool
is_joined t p x = same_peer x.0 p && joined x.1.trace t

abbrev pub disc : Thresholds → Chosen → List (PeerNo × Finished) → Topic → PeerNo → Disc
disc thresholds of peers t p = record {
  peer = p;
  class = class_of thresholds (lowest (scores_of of peers p));
  subscribed = list_any (is_joined t p) peers;
}

-- a disc for each peer, by the scores that some peers give
abbrev pub discs : Thresholds → Chosen → List (PeerNo × Finished) → Topic → List Disc
discs thresholds of peers t = map (λ x. disc thresholds of peers t x.0) peers
