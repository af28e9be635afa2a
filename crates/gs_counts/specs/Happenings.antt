-- What happens, where and when.
use Rattle.std.specs.Prelude.{ℕ, Option, None, Some}
use Rattle.gs_base.specs.declared.names.Millis.{Millis}
use Rattle.gs_base.specs.declared.names.PeerNo.{PeerNo}
use Rattle.gs_base.specs.declared.names.Topic.{Topic}
use Rattle.gs_counts.specs.declared.happening.Happening.{Happening}
use Rattle.gs_counts.specs.declared.happening.Scene.{Scene}
use Rattle.gs_counts.specs.declared.kind.Kind.{Kind}

-- ---- scenes

-- at a peer, concerning no neighbour
abbrev pub of_peer : Millis → PeerNo → Scene
of_peer at p = record { at = at; peer = p; neighbour = None }

-- concerning a neighbour
abbrev pub heard_of : Scene → PeerNo → Scene
heard_of s q = record { at = s.at; peer = s.peer; neighbour = Some q }

-- a neighbour does it, and it concerns the peer
abbrev pub by_neighbour : Scene → PeerNo → Scene
by_neighbour s q = record { at = s.at; peer = q; neighbour = Some s.peer }

-- ---- happenings

abbrev pub happening : Scene → Option Topic → Kind → ℕ → Happening
happening s topic kind amount = record {
  kind = kind;
  amount = amount;
  at = s.at;
  peer = s.peer;
  neighbour = s.neighbour;
  topic = topic;
}

abbrev pub on_topic : Scene → Topic → Kind → ℕ → Happening
on_topic s t kind amount = happening s (Some t) kind amount

abbrev pub on_none : Scene → Kind → ℕ → Happening
on_none s kind amount = happening s None kind amount
