use Rattle.std.specs.Prelude.{ℕ, max, Bool, List, filter}
use Rattle.std.specs.List.{list_any}
use Rattle.gs_base.specs.declared.names.PeerNo.{PeerNo}
use Rattle.gs_base.specs.declared.neighbour.Neighbour.{Neighbour}
use Rattle.gs_base.specs.Names.{peers_of, same_peer}
use Rattle.gs_params.specs.declared.params.Params.{Params}
use Rattle.gs_mesh.specs.Peers.{is_among}

-- What is given for a peer, and never changes. It has no codec: only the codec knows what is written on links, and a trace
-- holds RPCs as values. The rules name the one codec where it matters whether an RPC fits a frame.
pub record Peer : Type 0 where
  pub params : Params
  -- ascending by number
  pub neighbours : List Neighbour

-- the numbers of its neighbours
abbrev pub links_of : Peer → List PeerNo
links_of p = peers_of p.neighbours

-- whether a peer of this number is a neighbour
abbrev pub is_neighbour : Peer → PeerNo → Bool
is_neighbour p q = list_any (λ (n : Neighbour). same_peer q n.peer) p.neighbours

-- its explicit neighbours, with which there is a peering agreement, ascending by number (gossipsub v1.1, "Explicit
-- Peering Agreements")
abbrev pub explicit_of : Peer → List PeerNo
explicit_of p = peers_of (filter (λ (n : Neighbour). n.explicit) p.neighbours)

abbrev pub is_explicit : Peer → PeerNo → Bool
is_explicit p q = is_among (explicit_of p) q

-- for how many milliseconds a message that was seen is not delivered again
abbrev pub seen_ttl : Peer → ℕ
seen_ttl p = p.params.timing.seen_ttl_ms

-- for how many heartbeats a message is kept: at least one, by checked parameters
abbrev pub windows : Peer → ℕ
windows p = max 1 p.params.timing.mcache_len
