-- What the elements of a scenario's lists are found by.
use Rattle.std.specs.Prelude.{ℕ, List, nat_le, if◌then◌else◌}
use Rattle.gs_base.specs.declared.names.PeerNo.{PeerNo}
use Rattle.gs_scenario.specs.declared.scenario.keys.Name.{Name}
use Rattle.gs_scenario.specs.declared.scenario.keys.Pair.{Pair}

abbrev pub name_key : List ℕ → Name
name_key text = record { 0 = text }

-- the peers that a dial joins, the lower number first
abbrev pub joined_pair : PeerNo → PeerNo → Pair
joined_pair one other = if nat_le one.0 other.0 then record { 0 = one; 1 = other } else record { 0 = other; 1 = one }
