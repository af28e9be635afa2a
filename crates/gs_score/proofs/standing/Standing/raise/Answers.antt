use Rattle.std.proofs.Common.{◌≡◌, ap, ◌∙◌, rules}
use Rattle.gs_score.specs.Standings.{held, raised_by}
use Rattle.gs_score.proofs.Raising.{held-raised}
use Rattle.gs_score.proofs.standing.Standing.raise.Goals as goal

pub returns-clause-raises : goal.returns-clause-raises
returns-clause-raises c =
    let r = c.args.raise in
    let is : c.put.new.self ≡ raised_by r c.args.self.now = search rules in
    ap (held r.rules.now r.decays) is ∙ held-raised r.rules.now r.kind r.by r.decays c.args.self.now
