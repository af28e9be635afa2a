use Rattle.std.proofs.Common.{◌≡◌, ℕ, List, [], drop}
use Rattle.toml.specs.View.{items_view}
use Rattle.gs_scenario.specs.Keys.{read_each}
use Rattle.gs_scenario.specs.Kinds.{hex_text}
use Rattle.gs_scenario.specs.Views.{place_text}
use Rattle.gs_scenario.proofs.scenario.field.Field.prefixes.Given as goal

-- what the rest of the list gives after these prefixes is what the whole gives
abbrev pub invariant-loop-value : goal.invariant-loop-value
invariant-loop-value l =
    let read = λ (before : List (List ℕ)). hex_text (place_text l.self.place) in
    read_each read l.prefixes (items_view (drop l.value-index l.list)) ≡ read_each read [] (items_view l.list)
