use Rattle.gs_score.specs.Ledgers.{Kept}
use Rattle.gs_score.proofs.Placing.{sound_shut}
use Rattle.gs_score.proofs.scores.Scores.shut_out.Goals as goal

pub invariant_of-self : goal.invariant_of-self
invariant_of-self c =
    let old = c.self.inside in
    let k : Kept = record { params = old.rulebook; addresses = old.addresses; accounts = old.accounts.entries; decays = old.decays } in
    rw c.shut_out.ensures (sound_shut k c.args.peer c.self.invariant)
