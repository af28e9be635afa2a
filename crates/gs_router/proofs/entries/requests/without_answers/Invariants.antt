use Rattle.std.proofs.Common.{take, drop}
use Rattle.gs_rules.specs.Tables.{Entries}
use Rattle.gs_router.specs.Tables.{Agrees, AreMadeFor}
use Rattle.gs_router.specs.Known.{peer_with}
use Rattle.gs_router.proofs.Answering.{Missing}
use Rattle.gs_router.proofs.entries.requests.without_answers.Given as goal

abbrev pub invariant-loop-id : goal.invariant-loop-id
invariant-loop-id l =
    (L : Entries) → Agrees l.known.tables L → AreMadeFor l.known.tables (peer_with l.known.setup)
    → Missing (peer_with l.known.setup) L l.from l.ids (take l.id-index l.ids) (drop l.id-index l.ids) l.reply l.list.items
