-- A neighbour with defaults.
use Rattle.std.specs.Prelude.{pos, ℕ, false, List}
use Rattle.gs_base.specs.declared.names.PeerNo.{PeerNo}
use Rattle.gs_base.specs.declared.neighbour.Neighbour.{Neighbour}

-- it dialled, the application gives it the score 0, and there is no peering agreement (gossipsub v1.1, "Explicit Peering
-- Agreements")
abbrev pub accepted_neighbour : PeerNo → List ℕ → Neighbour
accepted_neighbour peer address = record {
  peer = peer;
  outbound = false;
  address = address;
  app = pos 0;
  explicit = false;
}
