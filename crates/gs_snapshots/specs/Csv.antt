-- Scores as CSV: a row for each part.
use Rattle.std.specs.Prelude.{ℕ, ℤ, List, [], ◌++◌, codes, decimal}
use Rattle.std.specs.List.{flat_map}
use Rattle.gs_plan.specs.declared.plan.Plan.{Plan}
use Rattle.gs_report.specs.Text.{score_text}
use Rattle.gs_score.specs.declared.parts.Part.{Part}
use Rattle.gs_score.specs.declared.parts.ScoreParts.{ScoreParts}
use Rattle.gs_score.specs.declared.parts.TopicParts.{TopicParts}
use Rattle.gs_trace.specs.Texts.{moment_text, names_of, peer_text, topic_text}
use Rattle.gs_snapshots.specs.declared.snapshot.OnTopic.{OnTopic}
use Rattle.gs_snapshots.specs.declared.snapshot.Snapshot.{Snapshot}
use Rattle.gs_snapshots.specs.Moments.{occasion_word}

abbrev pub csv_head : List ℕ
csv_head = codes "round,at,peer,event,neighbour,topic,part,counted,weighed\n"

-- what each row of a neighbour at a moment begins with
abbrev pub row_start : Plan → Snapshot → List ℕ
row_start plan s =
    decimal s.moment.round ++ codes "," ++ moment_text s.moment.at ++ codes ","
    ++ peer_text (names_of plan) s.moment.peer ++ codes "," ++ occasion_word s.moment.occasion ++ codes ","
    ++ peer_text (names_of plan) s.neighbour ++ codes ","

-- a row after such a start, with or without a topic: the name of a part, what is counted, if anything, and its weighted
-- amount
abbrev pub row : List ℕ → List ℕ → List ℕ → ℤ → List ℕ
row start name counted weighed =
    start ++ codes "," ++ name ++ codes "," ++ counted ++ codes "," ++ score_text weighed ++ codes "\n"

abbrev pub part_row : List ℕ → List ℕ → Part → List ℕ
part_row start name part = row start name (score_text part.counted) part.weighed

abbrev pub amount_row : List ℕ → List ℕ → ℤ → List ℕ
amount_row start name amount = row start name [] amount

-- the rows of the parts of a topic
abbrev pub topic_parts_rows : List ℕ → TopicParts → List ℕ
topic_parts_rows start parts =
    part_row start (codes "time_in_mesh") parts.time_in_mesh
    ++ part_row start (codes "first_message_deliveries") parts.first_message_deliveries
    ++ part_row start (codes "mesh_message_deliveries") parts.mesh_message_deliveries
    ++ part_row start (codes "mesh_failure_penalty") parts.mesh_failure_penalty
    ++ part_row start (codes "invalid_message_deliveries") parts.invalid_message_deliveries
    ++ amount_row start (codes "topic_score") parts.topic_score

unfoldable pub topic_rows : List ℕ → OnTopic → List ℕ
topic_rows start x = topic_parts_rows (start ++ topic_text x.topic) x.parts

-- the rows of the parts that belong to no single topic
abbrev pub score_parts_rows : List ℕ → ScoreParts → List ℕ
score_parts_rows start parts =
    amount_row start (codes "topic_sum") parts.topic_sum
    ++ amount_row start (codes "capped_topic_sum") parts.capped_topic_sum
    ++ part_row start (codes "app_specific_score") parts.app_specific_score
    ++ row start (codes "ip_colocation_factor") (decimal parts.neighbours_at_address) parts.ip_colocation_factor
    ++ part_row start (codes "behaviour_penalty") parts.behaviour_penalty

-- the rows of the score, of the parts of each topic, and of the parts that belong to no single topic
unfoldable pub rows_from : List ℕ → Snapshot → List ℕ
rows_from start s =
    amount_row start (codes "score") s.parts.score
    ++ flat_map (topic_rows start) s.topics
    ++ score_parts_rows start s.parts

abbrev pub csv_rows : Plan → Snapshot → List ℕ
csv_rows plan s = rows_from (row_start plan s) s
