-- The score of a neighbour after a trace, part by part.
use Rattle.std.specs.Prelude.{ℕ, List, map}
use Rattle.gs_base.specs.declared.names.PeerNo.{PeerNo}
use Rattle.gs_base.specs.declared.names.Topic.{Topic}
use Rattle.gs_rules.specs.Peers.{Peer}
use Rattle.gs_rules.specs.Tables.{Entries}
use Rattle.gs_rules.specs.Scored.{parts_of_score, parts_on_topic, topics_of_neighbour}
use Rattle.gs_snapshots.specs.declared.moments.Moment.{Moment}
use Rattle.gs_snapshots.specs.declared.snapshot.OnTopic.{OnTopic}
use Rattle.gs_snapshots.specs.declared.snapshot.Snapshot.{Snapshot}

-- the parts of a neighbour's score on a topic
abbrev pub on_topic : Peer → Entries → ℕ → PeerNo → Topic → OnTopic
on_topic p L at q t = record { topic = t; parts = parts_on_topic p L at q t }

-- The parts of a neighbour's score at a moment after a trace. Topics are those on which anything is known about it, in the
-- order of their bytes.
abbrev pub snapshot_of : Peer → Moment × Entries → PeerNo → Snapshot
snapshot_of p m q = record {
  moment = m.0;
  neighbour = q;
  parts = parts_of_score p m.1 m.0.at.0 q;
  topics = map (on_topic p m.1 m.0.at.0 q) (topics_of_neighbour p m.1 q);
}
