-- Groups of peers, by the names of the peers.
use Rattle.std.specs.Prelude.{ℕ, List, filter, map, Some}
use Rattle.gs_plan.specs.declared.plan.Plan.{Plan}
use Rattle.gs_base.specs.declared.names.PeerNo.{PeerNo}
use Rattle.gs_reach.specs.declared.chosen.Chosen.{Chosen}
use Rattle.gs_reach.specs.declared.chosen.Chosen.TheVariants as chosen
use Rattle.gs_reach.specs.Chosen.{is_chosen}
use Rattle.gs_figure_sheets.specs.declared.party.Party.{Party}
use Rattle.gs_figure_sheets.specs.declared.wanted.Group.{Group}
use Rattle.gs_figure_sheets.specs.Choices.{chosen_among, peers_named}

-- a group that is asked for: its name, and the names of its peers
pub record GroupWish : Type 0 where
  pub name : List ℕ
  pub peers : List ℕ

abbrev pub group_wish : Group → GroupWish
group_wish group = record { name = group.name.now; peers = group.peers.now }

-- a group among these peers: its name, its peers, and those of them whose traces count
abbrev pub party_of : Plan → List PeerNo → Chosen → GroupWish → Party
party_of plan peers among g = record {
  name = g.name;
  peers = chosen.Only (peers_named plan peers g.peers);
  told = chosen.Only (filter (is_chosen among) (peers_named plan peers g.peers));
}

abbrev pub parties_of : Plan → List PeerNo → Chosen → List GroupWish → List Party
parties_of plan peers among groups = map (party_of plan peers among) groups

-- the peers of each group
abbrev pub groups_of : Plan → List PeerNo → List GroupWish → List Chosen
groups_of plan peers groups = map (λ (g : GroupWish). chosen_among plan peers (Some g.peers)) groups
