use Rattle.std.proofs.Common.{◌∙◌, ap}
use Rattle.gs_rules.specs.Scoring.{history, setting_of}
use Rattle.gs_rules.specs.Tables.{ascending}
use Rattle.gs_score.specs.Histories.{named}
use Rattle.gs_router.proofs.Ascending.{one_ascending}
use Rattle.gs_router.proofs.tables.standings.Standings.topics.Goals as goal

pub returns : goal.returns
returns c = λ p L agrees.
    c.in_ok-list.ensures
    ∙ ap ascending c.as_slice.ensures.value
    ∙ one_ascending c.in_ok-topics.topics.items (named (history p L) c.args.peer) (λ q. c.in_ok-topics.ensures.each (setting_of p) (history p L) q agrees)
