use Rattle.std.proofs.Common.{◌≡◌, true, rules}
use Rattle.gs_score.specs.Histories.{accepts}
use Rattle.gs_router.proofs.Standing.{counts}
use Rattle.gs_router.proofs.tables.standings.Standings.apply.Goals as goal

pub returns : goal.returns
returns c = λ p H agrees.
    let accepted : accepts c.args.self.now.scores.accounts c.args.mark.now ≡ true = search rules in
    counts p c.args.self.now.scores c.apply.new.self H c.args.mark.now accepted c.in_ok-apply.ensures.agrees agrees
