use Rattle.std.proofs.Common.{◌≡◌, map}
use Rattle.toml.specs.View.{members_view, table_view}
use Rattle.gs_scenario.specs.Keys.{first_unknown}
use Rattle.gs_scenario.proofs.scenario.section.Section.only.Given as goal

-- the first unknown key is still to come
abbrev pub invariant-loop-key : goal.invariant-loop-key
invariant-loop-key l =
    let names = map (λ name. name.now) l.known in
    first_unknown names (members_view l.key-iterator) ≡ first_unknown names (table_view l.self.table.now)
