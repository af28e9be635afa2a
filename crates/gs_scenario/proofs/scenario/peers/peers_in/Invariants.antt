use Rattle.std.proofs.Common.{◌≡◌, [], drop, length}
use Rattle.toml.specs.View.{items_view}
use Rattle.gs_scenario.specs.Keys.{read_each}
use Rattle.gs_scenario.specs.PlanOf.{peer_in}
use Rattle.gs_scenario.proofs.scenario.peers.peers_in.Given as goal

-- what the rest of the list gives after these peers is what the whole gives
abbrev pub invariant-loop-value : goal.invariant-loop-value
invariant-loop-value l = record {
  read : read_each (peer_in l.round_ms) l.peers (items_view (drop l.value-index l.list)) ≡ read_each (peer_in l.round_ms) [] (items_view l.list);
  count : length l.peers ≡ l.value-index;
}
