use Rattle.std.proofs.Common.{◌≡◌, [], drop}
use Rattle.toml.specs.View.{items_view}
use Rattle.gs_scenario.specs.Keys.{read_each}
use Rattle.gs_scenario.specs.PlanOf.{agreement_in}
use Rattle.gs_scenario.proofs.scenario.explicit.agreements_in.Given as goal

-- what the rest of the list gives after these elements is what the whole gives
abbrev pub invariant-loop-value : goal.invariant-loop-value
invariant-loop-value l =
    let read = agreement_in l.peers l.dials in
    read_each read l.agreements (items_view (drop l.value-index l.list)) ≡ read_each read [] (items_view l.list)
