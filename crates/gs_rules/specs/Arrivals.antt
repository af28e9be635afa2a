-- How a member came into a mesh.
use Rattle.std.specs.Prelude.{◌≡◌, true, nat_le, ◌∷◌, ◌++◌}
use Rattle.std.specs.List.{AllByRecursion, IsAmong}
use Rattle.gs_base.specs.declared.names.PeerNo.{PeerNo}
use Rattle.gs_base.specs.declared.names.Topic.{Topic}
use Rattle.gs_base.specs.declared.mark.Mark.TheVariants.{Grafted, Pruned}
use Rattle.gs_rules.specs.declared.trace.Entry.{Entry}
use Rattle.gs_rules.specs.Tables.{Entries}
use Rattle.gs_rules.specs.Meshes.{backoff}

-- A neighbour entered the mesh of a topic by an entry. It was not in backoff there at that moment, and no later entry says
-- that it left.
pub record CameIn (q : PeerNo) (t : Topic) (L : Entries) : Type 0 where
  pub later : Entries
  pub entry : Entry
  pub earlier : Entries
  pub are : L ≡ later ++ entry ∷ earlier
  pub came : IsAmong entry.effects.marks (Grafted q t)
  pub rested : nat_le (backoff earlier q t) entry.at.0 ≡ true
  pub stayed : AllByRecursion (λ (e : Entry). ¬ (IsAmong e.effects.marks (Pruned q t))) later
