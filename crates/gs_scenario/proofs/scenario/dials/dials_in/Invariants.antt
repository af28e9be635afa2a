use Rattle.std.proofs.Common.{◌≡◌, [], drop}
use Rattle.toml.specs.View.{items_view}
use Rattle.gs_scenario.specs.Keys.{read_each}
use Rattle.gs_scenario.specs.PlanOf.{dial_in}
use Rattle.gs_scenario.proofs.scenario.dials.dials_in.Given as goal

-- what the rest of the list gives after these elements is what the whole gives
abbrev pub invariant-loop-value : goal.invariant-loop-value
invariant-loop-value l =
    let read = dial_in l.peers in
    read_each read l.dials (items_view (drop l.value-index l.list)) ≡ read_each read [] (items_view l.list)
