use Rattle.std.proofs.Common.{◌≡◌, [], drop, length}
use Rattle.toml.specs.View.{items_view}
use Rattle.gs_scenario.specs.Keys.{read_each}
use Rattle.gs_scenario.proofs.scenario.elements.read_each.Given as goal

-- what the rest of the list gives after these elements is what the whole gives
abbrev pub invariant-loop-value : goal.invariant-loop-value
invariant-loop-value g l = record {
  read : read_each g.reads l.elements (items_view (drop l.value-index l.list)) ≡ read_each g.reads [] (items_view l.list);
  count : length l.elements ≡ l.value-index;
}
