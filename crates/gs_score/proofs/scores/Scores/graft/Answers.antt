use Rattle.std.proofs.Common.{Some, refl}
use Rattle.gs_score.specs.Standings.{grafted}
use Rattle.gs_score.specs.Ledgers.{Kept, standing_of}
use Rattle.gs_score.specs.Histories.{Grafted}
use Rattle.gs_score.proofs.Keeping.{agrees_put, concerns_graft, graft_names, sound_put, up_to_since}
use Rattle.gs_score.proofs.scores.Scores.graft.Goals as goal

pub invariant_of-self : goal.invariant_of-self
invariant_of-self c = rw c.in_err-graft_standing.ensures.unchanged c.self.invariant

pub invariant_of-self-2 : goal.invariant_of-self-2
invariant_of-self-2 c =
    let old = c.self.inside in
    let k : Kept = record { params = old.rulebook; addresses = old.addresses; accounts = old.accounts.entries; decays = old.decays } in
    let standing = standing_of k.accounts c.args.peer c.args.topic.now in
    sound_put k c.graft_standing.new.accounts.entries c.args.peer c.args.topic.now (grafted c.args.now standing)
    c.self.invariant c.in_ok-graft_standing.ensures.puts c.graft_standing.ensures.few
    (up_to_since (Some c.args.now) k.decays standing (c.self.invariant.standings c.args.peer c.args.topic.now))

pub returns-clause-agrees : goal.returns-clause-agrees
returns-clause-agrees c =
    let old = c.self.inside in
    let k : Kept = record { params = old.rulebook; addresses = old.addresses; accounts = old.accounts.entries; decays = old.decays } in
    let es = c.graft_standing.new.accounts.entries in
    let p = c.args.peer in
    let t = c.args.topic.now in
    rw (← c.self.view_is) (λ s H a.
    agrees_put s k (record k { accounts = es }) H (Grafted p t c.args.now) p t (grafted c.args.now (standing_of k.accounts p t)) (λ r h. record h { since = Some c.args.now })
    (concerns_graft p t c.args.now) (graft_names p t c.args.now)
    (record { rest = refl; puts = c.in_ok-graft_standing.ensures.puts; adds = c.in_ok-graft_standing.ensures.adds }) refl a)
