-- What all peers' traces say about publications, deliveries, subscriptions and lost neighbours.
use Rattle.std.specs.Prelude.{ℕ, true, false, List, [], ◌∷◌, map, Option, Some, None, reverse}
use Rattle.std.specs.List.{flat_map}
use Rattle.gs_base.specs.declared.names.PeerNo.{PeerNo}
use Rattle.gs_base.specs.declared.names.Topic.{Topic}
use Rattle.gs_base.specs.declared.names.Millis.{Millis}
use Rattle.gs_rules.specs.Tables.{Entries, lost}
use Rattle.gs_rules.specs.declared.event.Event.{Event}
use Rattle.gs_rules.specs.declared.event.Event.TheVariants.{Heard, Late, BeatBegin, Decay, RoundEnd, Shut, Part, Step, Own, Lost}
use Rattle.gs_plan.specs.declared.plan.Act.{Act}
use Rattle.gs_plan.specs.declared.plan.Act.TheVariants.{Subscribe, Unsubscribe, Publish, Raw, HangUp}
use Rattle.gs_rules.specs.declared.trace.Entry.{Entry}
use Rattle.gs_report.specs.declared.finished.Finished.{Finished}
use Rattle.gs_reach.specs.declared.listed.Appearance.{Appearance}
use Rattle.gs_reach.specs.declared.listed.Change.{Change}
use Rattle.gs_reach.specs.declared.listed.Loss.{Loss}
use Rattle.gs_reach.specs.declared.listed.Listed.{Listed}

-- ---- what an entry says

-- the publication that an act of the user is, if it is one
abbrev pub act_published : PeerNo → Millis → Act → List Appearance
act_published p at (Publish t payload) = record { peer = p; at = at; topic = t; payload = payload } ∷ []
act_published p at (Subscribe t) = []
act_published p at (Unsubscribe t) = []
act_published p at (Raw q bytes) = []
act_published p at (HangUp q) = []

-- The publication that an event is. Each event is named here, so that a new one must be decided on.
abbrev pub published_by : PeerNo → Millis → Event → List Appearance
published_by p at (Own act) = act_published p at act
published_by p at (Heard q rpc) = []
published_by p at (Late q rpc) = []
published_by p at (Part q part) = []
published_by p at BeatBegin = []
published_by p at (Step step) = []
published_by p at (Lost q loss) = []
published_by p at Decay = []
published_by p at (RoundEnd r) = []
published_by p at Shut = []

-- the deliveries of an entry
abbrev pub delivered_by : PeerNo → Millis → List (Topic × List ℕ) → List Appearance
delivered_by p at delivered = map (λ x. record { peer = p; at = at; topic = x.0; payload = x.1 }) delivered

-- the change of a subscription that an act of the user is, if it is one
abbrev pub act_changed : PeerNo → Millis → Act → List Change
act_changed p at (Subscribe t) = record { peer = p; at = at; topic = t; subscribes = true } ∷ []
act_changed p at (Unsubscribe t) = record { peer = p; at = at; topic = t; subscribes = false } ∷ []
act_changed p at (Publish t payload) = []
act_changed p at (Raw q bytes) = []
act_changed p at (HangUp q) = []

-- The change of a subscription that an event is. Each event is named here, so that a new one must be decided on.
abbrev pub changed_by : PeerNo → Millis → Event → List Change
changed_by p at (Own act) = act_changed p at act
changed_by p at (Heard q rpc) = []
changed_by p at (Late q rpc) = []
changed_by p at (Part q part) = []
changed_by p at BeatBegin = []
changed_by p at (Step step) = []
changed_by p at (Lost q loss) = []
changed_by p at Decay = []
changed_by p at (RoundEnd r) = []
changed_by p at Shut = []

-- the loss of a neighbour, if one is lost
abbrev pub loss_of : PeerNo → Millis → Option PeerNo → List Loss
loss_of p at None = []
loss_of p at (Some q) = record { peer = p; neighbour = q; at = at } ∷ []

-- ---- what a peer's trace says, the oldest entry first

abbrev pub listed_by : PeerNo → Entries → Listed
listed_by p trace = record {
  published = flat_map (λ (e : Entry). published_by p e.at e.event) (reverse trace);
  delivered = flat_map (λ (e : Entry). delivered_by p e.at e.effects.delivered) (reverse trace);
  changes = flat_map (λ (e : Entry). changed_by p e.at e.event) (reverse trace);
  losses = flat_map (λ (e : Entry). loss_of p e.at (lost e.event)) (reverse trace);
}

-- ---- what several traces say, peer by peer

-- of peers that ended
abbrev pub listed : List (PeerNo × Finished) → Listed
listed peers = record {
  published = flat_map (λ (x : PeerNo × Finished). (listed_by x.0 x.1.trace).published) peers;
  delivered = flat_map (λ (x : PeerNo × Finished). (listed_by x.0 x.1.trace).delivered) peers;
  changes = flat_map (λ (x : PeerNo × Finished). (listed_by x.0 x.1.trace).changes) peers;
  losses = flat_map (λ (x : PeerNo × Finished). (listed_by x.0 x.1.trace).losses) peers;
}

-- of peers whose traces were listed one by one
abbrev pub joined : List (PeerNo × Listed) → Listed
joined parts = record {
  published = flat_map (λ (x : PeerNo × Listed). x.1.published) parts;
  delivered = flat_map (λ (x : PeerNo × Listed). x.1.delivered) parts;
  changes = flat_map (λ (x : PeerNo × Listed). x.1.changes) parts;
  losses = flat_map (λ (x : PeerNo × Listed). x.1.losses) parts;
}
