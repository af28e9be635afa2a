-- What a router knows when it decides what it does.
use Rattle.std.specs.Prelude.{◌≡◌, ◌≤◌, ◌+◌, ℕ}
use Rattle.gs_base.specs.Names.{peers_of}
use Rattle.gs_params.specs.Picks.{IsAscending}
use Rattle.gs_rules.specs.Peers.{Peer, explicit_of}
use Rattle.gs_rules.specs.Tables.{Entries, last_moment}
use Rattle.gs_router.specs.declared.setup.Setup.{Setup}
use Rattle.gs_router.specs.declared.known.Known.{Known}
use Rattle.gs_router.specs.Tables.{Agrees, AgreesOnScores, AreMadeFor}

-- the peer that a router is, as its trace is read
abbrev pub peer_with : Setup → Peer
peer_with setup = record { params = setup.params; neighbours = setup.neighbours.items }

-- the list of explicit neighbours has just the explicit ones
abbrev pub ListsExplicit : Setup → Type 0
ListsExplicit setup = setup.explicit.items ≡ explicit_of (peer_with setup)

-- The neighbours ascend. `opportunistic_ticks` is not 0, and a mesh that is cut has room for its best and its outbound
-- members.
pub record IsFit (setup : Setup) : Type 0 where
  pub ascending : IsAscending (peers_of setup.neighbours.items)
  pub ticks : 1 ≤ setup.params.timing.opportunistic_ticks
  pub room : setup.params.degrees.d_score + setup.params.degrees.d_out ≤ setup.params.degrees.d
  pub explicit : ListsExplicit setup

-- the tables say what this trace says at a moment that is no earlier than its last
pub record Knows (known : Known) (now : ℕ) (L : Entries) : Type 0 where
  pub agrees : Agrees known.tables L
  pub scores : AgreesOnScores (peer_with known.setup) known.tables.standings L
  pub made : AreMadeFor known.tables (peer_with known.setup)
  pub time : last_moment L ≤ now
  pub explicit : ListsExplicit known.setup
