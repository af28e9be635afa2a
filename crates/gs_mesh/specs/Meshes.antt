-- The meshes and fanouts of topics (gossipsub v1.0, "Router State"), and how calls change them.
use Rattle.std.specs.Prelude.{◌≡◌, Bool, false, if◌then◌else◌, List, [], None, unwrap_or, is_some}
use Rattle.std.specs.Map.{lookup}
use Rattle.gs_base.specs.declared.names.PeerNo.{PeerNo}
use Rattle.gs_base.specs.declared.names.Topic.{Topic}
use Rattle.gs_base.specs.declared.names.Millis.{Millis}
use Rattle.gs_base.specs.Names.{same_topic}
use Rattle.gs_mesh.specs.declared.topic_mesh.TopicMesh.{TopicMesh}
use Rattle.gs_mesh.specs.Backoffs.{until}

-- ---- look-ups

-- what is kept about a topic at first
abbrev pub nothing : TopicMesh
nothing = record { is_joined = false; members = []; fanout = []; last_published = None; backoffs = [] }

abbrev pub kept : List (Topic × TopicMesh) → Topic → TopicMesh
kept topics t = unwrap_or (lookup (same_topic t) topics) nothing

-- who is in its mesh, ascending
abbrev pub members : List (Topic × TopicMesh) → Topic → List PeerNo
members topics t = (kept topics t).members

-- who is in its fanout, ascending
abbrev pub fanout : List (Topic × TopicMesh) → Topic → List PeerNo
fanout topics t = (kept topics t).fanout

-- the moment from which a neighbour may be grafted to it
abbrev pub backoff_until : List (Topic × TopicMesh) → PeerNo → Topic → Millis
backoff_until topics q t = until (kept topics t).backoffs q

-- whether anything is kept about it
abbrev pub is_kept : List (Topic × TopicMesh) → Topic → Bool
is_kept topics t = is_some (lookup (same_topic t) topics)

-- ---- changes

-- each look-up answers as before, as after a call that ran out of memory
abbrev pub SayTheSame : List (Topic × TopicMesh) → List (Topic × TopicMesh) → Type 0
SayTheSame old new = (t : Topic) → kept new t ≡ kept old t

-- now this is kept about a topic, and nothing changes for all others
abbrev pub Puts : List (Topic × TopicMesh) → List (Topic × TopicMesh) → Topic → TopicMesh → Type 0
Puts old new t mesh = (u : Topic) → kept new u ≡ (if same_topic t u then mesh else kept old u)

-- for a topic nothing changes except until when neighbours may not be grafted, and for all others nothing changes
abbrev pub ChangesBackoffs : List (Topic × TopicMesh) → List (Topic × TopicMesh) → Topic → Type 0
ChangesBackoffs old new t = Puts old new t (record (kept old t) { backoffs = (kept new t).backoffs })
