use Rattle.gs_score.specs.Ledgers.{Kept, standing_of}
use Rattle.gs_score.specs.Standings.{raised_standing}
use Rattle.gs_score.proofs.Keeping.{sound_put, up_to_raised}
use Rattle.gs_score.proofs.scores.Scores.raise.Goals as goal

pub invariant_of-self : goal.invariant_of-self
invariant_of-self c = rw c.in_err-raise_standing.ensures.unchanged c.self.invariant

pub invariant_of-self-2 : goal.invariant_of-self-2
invariant_of-self-2 c =
    let old = c.self.inside in
    let k : Kept = record { params = old.rulebook; addresses = old.addresses; accounts = old.accounts.entries; decays = old.decays } in
    let standing = standing_of k.accounts c.args.peer c.args.topic.now in
    let rules = c.of-rules.result.now in
    sound_put k c.raise_standing.new.accounts.entries c.args.peer c.args.topic.now (raised_standing rules c.args.kind c.args.by k.decays standing)
    c.self.invariant c.in_ok-raise_standing.ensures.puts c.raise_standing.ensures.few
    (up_to_raised rules c.args.kind c.args.by k.decays standing (c.self.invariant.standings c.args.peer c.args.topic.now))
