use Rattle.std.proofs.Common.{◌≡◌, [], drop}
use Rattle.toml.specs.View.{items_view}
use Rattle.gs_scenario.specs.Keys.{read_each}
use Rattle.gs_scenario.specs.PlanOf.{line_in}
use Rattle.gs_scenario.proofs.scenario.script.lines_in.Given as goal

-- what the rest of the list gives after these lines is what the whole gives
abbrev pub invariant-loop-value : goal.invariant-loop-value
invariant-loop-value l =
    let read = line_in l.known.topics.now l.known.peers.now l.known.dials.now l.known.rounds in
    read_each read l.lines (items_view (drop l.value-index l.list)) ≡ read_each read [] (items_view l.list)
