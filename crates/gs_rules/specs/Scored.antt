-- The parts of a neighbour's score, by a trace.
use Rattle.std.specs.Prelude.{ℕ, List}
use Rattle.gs_base.specs.declared.names.PeerNo.{PeerNo}
use Rattle.gs_base.specs.declared.names.Topic.{Topic}
use Rattle.gs_score.specs.declared.parts.ScoreParts.{ScoreParts}
use Rattle.gs_score.specs.declared.parts.TopicParts.{TopicParts}
use Rattle.gs_score.specs.Accounts.{rules_of}
use Rattle.gs_score.specs.Histories.{held_by, named}
use Rattle.gs_score.specs.Parts.{score_parts, topic_parts}
use Rattle.gs_rules.specs.Peers.{Peer}
use Rattle.gs_rules.specs.Tables.{Entries, ascending}
use Rattle.gs_rules.specs.Scoring.{history, setting_of}

-- the topics on which anything is known about a neighbour, in the order of their bytes
abbrev pub topics_of_neighbour : Peer → Entries → PeerNo → List Topic
topics_of_neighbour p L q = ascending (named (history p L) q)

-- the parts of its score at a moment, over these topics, and those of what one topic gives
unfoldable pub parts_of_score : Peer → Entries → ℕ → PeerNo → ScoreParts
parts_of_score p L at q = score_parts (setting_of p) at (history p L) q (topics_of_neighbour p L q)

unfoldable pub parts_on_topic : Peer → Entries → ℕ → PeerNo → Topic → TopicParts
parts_on_topic p L at q t = topic_parts (rules_of p.params t) at (held_by p.params (history p L) q t)
