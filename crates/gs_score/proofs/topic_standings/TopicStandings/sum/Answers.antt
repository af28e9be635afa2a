use Rattle.std.proofs.Common.{◌∙◌, ◌*◌, ◌^◌, lit<, sym}
use Rattle.gs_score.proofs.Bounds.{back}
use Rattle.gs_score.proofs.Sums.{same_sum, zeros}
use Rattle.gs_base.specs.declared.names.Topic.{Topic}
use Rattle.gs_score.specs.Accounts.{held_in, rules_of}
use Rattle.gs_score.specs.Formula.{topic_part}
use Rattle.gs_score.specs.Standings.{Held}
use Rattle.gs_score.proofs.topic_standings.TopicStandings.sum.Goals as goal

pub returns-clause-value : goal.returns-clause-value
returns-clause-value c = rw (← c.self.view_is) (λ ts covers.
    back c.sum_of.result (1_024 * 10 ^ 25) c.sum_of.ensures.bound (lit< tt)
    ∙ c.sum_of.ensures.value
    ∙ same_sum c.args.rulebook.now c.args.decays c.args.now.0 c.self.inside.standings.entries ts c.sum_of.ensures.apart covers)

pub returns-then-not-any_weighs-clause-value : goal.returns-then-not-any_weighs-clause-value
returns-then-not-any_weighs-clause-value c = λ ts covers.
    let params = c.args.rulebook.now in
    let at : Topic → Held = held_in params c.args.decays c.args.self.now in
    sym (zeros (λ t. topic_part (rules_of params t) c.args.now.0 (at t))
    (λ t. c.any_weighs.ensures c.if-not-any_weighs.true t c.args.now.0 (at t))
    ts)
