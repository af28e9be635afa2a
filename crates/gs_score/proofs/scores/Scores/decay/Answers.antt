use Rattle.gs_score.specs.Ledgers.{Kept}
use Rattle.gs_score.proofs.Keeping.{agrees_decay}
use Rattle.gs_score.proofs.scores.Scores.decay.Goals as goal

pub returns-clause-agrees : goal.returns-clause-agrees
returns-clause-agrees c =
    let old = c.self.inside in
    let k : Kept = record { params = old.rulebook; addresses = old.addresses; accounts = old.accounts.entries; decays = old.decays } in
    rw (← c.self.view_is) (λ s H a. agrees_decay s k H c.self.invariant a)
