-- What a rule says, and what rules are made of.
use Rattle.std.specs.Prelude.{ℕ, Bool, not, ◌&&◌, List, [], map, filter, fold, None}
use Rattle.gs_base.specs.declared.names.PeerNo.{PeerNo}
use Rattle.gs_base.specs.declared.names.Topic.{Topic}
use Rattle.gs_base.specs.declared.rpc.Rpc.{Rpc}
use Rattle.gs_params.specs.declared.params.Degrees.{Degrees}
use Rattle.gs_mesh.specs.declared.members.Member.{Member}
use Rattle.gs_rules.specs.declared.trace.Effects.{Effects}
use Rattle.gs_mesh.specs.Peers.{put_in}
use Rattle.gs_rules.specs.Peers.{Peer, explicit_of, is_explicit, links_of}
use Rattle.gs_rules.specs.Tables.{Entries, on, up}

-- ---- what rules say

-- What a rule says: the effects of an event, or what is chosen before them.
pub data Rule : Type 0 where
  -- these effects, and nothing is chosen
  Gives : Effects → Rule
  -- any of these peers: this many, or all if there are fewer
  AnyOf : ℕ → List PeerNo → (List PeerNo → Rule) → Rule
  -- who is kept of a mesh with too many members: `d` members, the best by score among them, equal scores as it likes
  CutOf : Degrees → List Member → (List PeerNo → Rule) → Rule
  -- one of this many places
  OneOf : ℕ → (ℕ → Rule) → Rule

-- ---- what is done

-- nothing is done
abbrev pub no_effects : Effects
no_effects = record { sends = []; delivered = []; promise = None; marks = [] }

abbrev pub to_each : Rpc → List PeerNo → List (PeerNo × Rpc)
to_each rpc qs = map (λ q. (q, rpc)) qs

abbrev pub up_neighbours : Peer → Entries → List PeerNo
up_neighbours p L = filter (up L) (links_of p)

-- those of these that a test does not leave out
abbrev pub without : (PeerNo → Bool) → List PeerNo → List PeerNo
without is_out qs = filter (λ q. not (is_out q)) qs

-- the neighbours that are up and on the topic
abbrev pub listeners : Peer → Entries → Topic → List PeerNo
listeners p L t = filter (λ q. up L q && on L q t) (links_of p)

-- the explicit ones of them, to which each message goes (gossipsub v1.1, "Explicit Peering Agreements")
abbrev pub explicit_listeners : Peer → Entries → Topic → List PeerNo
explicit_listeners p L t = filter (λ q. up L q && on L q t) (explicit_of p)

-- the others, which meshes, fanouts and gossip are made of
abbrev pub ordinary_listeners : Peer → Entries → Topic → List PeerNo
ordinary_listeners p L t = without (is_explicit p) (listeners p L t)

-- these peers, which ascend by number, and others among them, each at its place and once
abbrev pub together_with : List PeerNo → List PeerNo → List PeerNo
together_with others qs = fold (λ found q. put_in q found) qs others
