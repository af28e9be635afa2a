-- Scores as JSON Lines.
use Rattle.std.specs.Prelude.{ℕ, ℤ, List, ◌++◌, codes, decimal}
use Rattle.gs_params.specs.declared.params.Thresholds.{Thresholds}
use Rattle.gs_plan.specs.declared.plan.Plan.{Plan}
use Rattle.gs_report.specs.Text.{score_text}
use Rattle.gs_score.specs.declared.parts.Part.{Part}
use Rattle.gs_score.specs.declared.parts.ScoreParts.{ScoreParts}
use Rattle.gs_score.specs.declared.parts.TopicParts.{TopicParts}
use Rattle.gs_trace.specs.Events.{event_text, topic_member}
use Rattle.gs_trace.specs.Lines.{line_start}
use Rattle.gs_trace.specs.Texts.{list_text, names_of, peer_text, quoted, topic_text}
use Rattle.gs_snapshots.specs.declared.snapshot.OnTopic.{OnTopic}
use Rattle.gs_snapshots.specs.declared.snapshot.Snapshot.{Snapshot}
use Rattle.gs_snapshots.specs.Moments.{occasion_word}

-- ---- the first line

abbrev pub thresholds_text : Thresholds → List ℕ
thresholds_text t =
    codes "{\"gossip_threshold\":" ++ score_text t.gossip_threshold
    ++ codes ",\"publish_threshold\":" ++ score_text t.publish_threshold
    ++ codes ",\"graylist_threshold\":" ++ score_text t.graylist_threshold ++ codes "}"

-- the names of the peers by their numbers, the length of a round, the last round, and the thresholds
abbrev pub json_head : Plan → List ℕ
json_head plan =
    codes "{\"peers\":" ++ list_text quoted (names_of plan) ++ codes ",\"round_ms\":" ++ decimal plan.round_ms
    ++ codes ",\"last_round\":" ++ decimal plan.rounds
    ++ codes ",\"thresholds\":" ++ thresholds_text plan.params.thresholds ++ codes "}\n"

-- ---- a line

-- an amount after its name
abbrev pub amount_member : List ℕ → ℤ → List ℕ
amount_member name amount = codes ",\"" ++ name ++ codes "\":" ++ score_text amount

-- a part: what is counted, and its weighted amount
abbrev pub part_member : List ℕ → Part → List ℕ
part_member name part =
    codes ",\"" ++ name ++ codes "\":{\"counted\":" ++ score_text part.counted
    ++ codes ",\"weighed\":" ++ score_text part.weighed ++ codes "}"

abbrev pub topic_parts_members : TopicParts → List ℕ
topic_parts_members parts =
    part_member (codes "time_in_mesh") parts.time_in_mesh
    ++ part_member (codes "first_message_deliveries") parts.first_message_deliveries
    ++ part_member (codes "mesh_message_deliveries") parts.mesh_message_deliveries
    ++ part_member (codes "mesh_failure_penalty") parts.mesh_failure_penalty
    ++ part_member (codes "invalid_message_deliveries") parts.invalid_message_deliveries
    ++ amount_member (codes "topic_score") parts.topic_score

abbrev pub topic_object : OnTopic → List ℕ
topic_object x = codes "{\"topic\":" ++ topic_text x.topic ++ topic_parts_members x.parts ++ codes "}"

-- the number of neighbours at the address, and the weighted amount of that
abbrev pub colocation_member : ℕ → ℤ → List ℕ
colocation_member neighbours weighed =
    codes ",\"ip_colocation_factor\":{\"neighbours\":" ++ decimal neighbours
    ++ codes ",\"weighed\":" ++ score_text weighed ++ codes "}"

-- the parts that belong to no single topic
abbrev pub score_parts_members : ScoreParts → List ℕ
score_parts_members parts =
    amount_member (codes "topic_sum") parts.topic_sum
    ++ amount_member (codes "capped_topic_sum") parts.capped_topic_sum
    ++ part_member (codes "app_specific_score") parts.app_specific_score
    ++ colocation_member parts.neighbours_at_address parts.ip_colocation_factor
    ++ part_member (codes "behaviour_penalty") parts.behaviour_penalty

-- the moment, the peer that scores, the neighbour that is scored, the score, and its parts
abbrev pub json_line : Plan → Snapshot → List ℕ
json_line plan s =
    line_start (names_of plan) s.moment.round s.moment.at s.moment.peer ++ event_text (occasion_word s.moment.occasion)
    ++ codes ",\"neighbour\":" ++ peer_text (names_of plan) s.neighbour
    ++ amount_member (codes "score") s.parts.score
    ++ codes ",\"topics\":" ++ list_text topic_object s.topics
    ++ score_parts_members s.parts ++ codes "}\n"
