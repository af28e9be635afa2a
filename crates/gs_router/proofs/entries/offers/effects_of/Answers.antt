use Rattle.std.proofs.Common.{◌∙◌}
use Rattle.gs_base.specs.Rpcs.{most_identifiers}
use Rattle.gs_router.specs.Known.{peer_with}
use Rattle.gs_router.proofs.Wanting.{room_few, wanted_few, wanted_long}
use Rattle.gs_router.proofs.entries.offers.effects_of.Goals as goal

pub ask-requires-clause-few : goal.ask-requires-clause-few
ask-requires-clause-few g c =
    let p = peer_with c.args.known.now.setup in
    let L = c.requires.0 in
    let knows = c.requires.1 in
    let tables = c.args.known.now.tables in
    let room = room_few p L c.args.from tables.budgets.full c.of-budget.result (c.of-budget.ensures ∙ knows.agrees.budgets.leaves c.args.from) knows.made.budget in
    wanted_few p L c.args.now.0 c.of-budget.result.ids most_identifiers c.as_slice.result.now c.in_ok-ids.ids (c.in_ok-ids.ensures L knows) room

pub ask-requires-clause-each : goal.ask-requires-clause-each
ask-requires-clause-each g c =
    wanted_long (peer_with c.args.known.now.setup) c.requires.0 c.args.now.0 c.of-budget.result.ids c.as_slice.result.now c.in_ok-ids.ids (c.in_ok-ids.ensures c.requires.0 c.requires.1)
