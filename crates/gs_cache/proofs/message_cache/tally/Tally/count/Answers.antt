use Rattle.std.proofs.Common.{◌-◌, ap, ◌∙◌, ℕ}
use Rattle.gs_cache.proofs.Spending.{tallied}
use Rattle.gs_cache.proofs.message_cache.tally.Tally.count.Goals as goal

pub returns-clause-counts : goal.returns-clause-counts
returns-clause-counts c = rw (← c.self.view_is)
    (tallied c.args.answers c.args.peer c.self.inside.left.entries c.insert.new.self.entries c.saturating_sub-left.result
    (c.saturating_sub-left.ensures ∙ ap (λ (n : ℕ). n - 1) (rw c.self.view_is c.left_to.ensures)) c.in_ok-insert.ensures.updates.0)
