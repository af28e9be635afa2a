use Rattle.std.proofs.Common.{None, refl}
use Rattle.gs_score.specs.Standings.{pruned}
use Rattle.gs_score.specs.Ledgers.{Kept, standing_of}
use Rattle.gs_score.proofs.Keeping.{agrees_left, sound_put, up_to_since}
use Rattle.gs_score.proofs.scores.Scores.prune.Goals as goal

pub invariant_of-self : goal.invariant_of-self
invariant_of-self c =
    let old = c.self.inside in
    let k : Kept = record { params = old.rulebook; addresses = old.addresses; accounts = old.accounts.entries; decays = old.decays } in
    let standing = standing_of k.accounts c.args.peer c.args.topic.now in
    sound_put k c.prune_standing.new.accounts.entries c.args.peer c.args.topic.now (pruned standing)
    c.self.invariant c.prune_standing.ensures.puts c.prune_standing.ensures.few
    (up_to_since None k.decays standing (c.self.invariant.standings c.args.peer c.args.topic.now))

pub returns-clause-agrees : goal.returns-clause-agrees
returns-clause-agrees c =
    let old = c.self.inside in
    let k : Kept = record { params = old.rulebook; addresses = old.addresses; accounts = old.accounts.entries; decays = old.decays } in
    rw (← c.self.view_is) (λ s H a.
    agrees_left s k c.prune_standing.new.accounts.entries H c.args.peer c.args.topic.now
    c.prune_standing.ensures.puts c.prune_standing.ensures.keeps a)

pub returns-clause-keeps : goal.returns-clause-keeps
returns-clause-keeps c =
    rw (← c.self.view_is) (record {
      rest = refl;
      puts = c.prune_standing.ensures.puts;
      keeps = c.prune_standing.ensures.keeps;
    })
