-- Values that are filed under keys.
use Rattle.std.specs.Prelude.{◌≡◌, ℕ, Bool, ◌&&◌, List, [], Some, None}
use Rattle.std.specs.Map.{lookup}
use Rattle.std.specs.declared.vec.Vec.{Vec}
use Rattle.std.specs.declared.alloc.Global.{Global}
use Rattle.indexmap.specs.IndexMap.{IndexMap}
use Rattle.gs_base.specs.declared.names.Topic.{Topic}
use Rattle.gs_base.specs.Names.{same_topic}
use Rattle.gs_rules.specs.Rules.{same_bytes}
use Rattle.gs_reach.specs.declared.keys.Payload.{Payload}
use Rattle.gs_reach.specs.declared.keys.TopicPayload.{TopicPayload}
use Rattle.gs_reach.specs.declared.listed.Appearance.{Appearance}
use Rattle.gs_reach.specs.declared.listed.Arrival.{Arrival}
use Rattle.gs_reach.specs.declared.listed.Change.{Change}
use Rattle.gs_reach.specs.declared.listed.Turn.{Turn}
use Rattle.gs_reach.specs.Messages.{appearances, arrivals, turns}

-- the values that are filed under a key, or none if there are none
abbrev pub found : {K V S : Type 0} → (K → K → Bool) → IndexMap K (Vec V Global) S → K → List V
found same filed key = elim (lookup (same key) filed.entries) [ None ↦ [] | Some values ↦ values.items ]

-- ---- what is filed

-- the topic and the payload of a publication, regardless of peer and moment
abbrev pub said_of : Appearance → TopicPayload
said_of m = record { topic = m.topic; payload = m.payload }

abbrev pub same_said : TopicPayload → TopicPayload → Bool
same_said x y = same_topic x.topic y.topic && same_bytes x.payload y.payload

abbrev pub same_payload : Payload → Payload → Bool
same_payload x y = same_bytes x.0 y.0

-- for any payload on any topic, its publications are found
abbrev pub FilesPublished : {S : Type 0} → IndexMap TopicPayload (Vec Arrival Global) S → List Appearance → Type 0
FilesPublished filed all = (m : Appearance) → found same_said filed (said_of m) ≡ appearances m all

-- for any payload, its deliveries are found
abbrev pub FilesDelivered : {S : Type 0} → IndexMap Payload (Vec Arrival Global) S → List Appearance → Type 0
FilesDelivered filed all = (payload : List ℕ) → found same_payload filed (record { 0 = payload }) ≡ arrivals payload all

-- for any topic, it is found who subscribed to it or left it
abbrev pub FilesTurns : {S : Type 0} → IndexMap Topic (Vec Turn Global) S → List Change → Type 0
FilesTurns filed all = (t : Topic) → found same_topic filed t ≡ turns t all
