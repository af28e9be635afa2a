use Rattle.std.proofs.Common.{◌∙◌, FitsSigned}
use Rattle.std.specs.Int.{w128}
use Rattle.std.proofs.lemmas.Int.{to_z-of_z}
use Rattle.gs_score.specs.Histories.{named}
use Rattle.gs_score.proofs.Naming.{named_covers}
use Rattle.gs_rules.specs.Scoring.{history, score, setting_of}
use Rattle.gs_router.proofs.tables.standings.Standings.score.Goals as goal

pub returns : goal.returns
unfolding score
returns c = λ p L agrees.
    let fits : FitsSigned w128 c.score.result = record { sfits = c.score.type_inv } in
    to_z-of_z w128 c.score.result fits
    ∙ c.score.ensures (setting_of p) (history p L) (named (history p L) c.args.peer) agrees (named_covers p.params (history p L) c.args.peer)
