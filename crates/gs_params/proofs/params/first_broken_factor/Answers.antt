use Rattle.std.proofs.Common.{ap, sym, ◌∙◌}
use Rattle.gs_params.specs.Checks.{first_broken, topic_factor_checks}
use Rattle.gs_params.proofs.Broken.{fails_at, holds_at}
use Rattle.gs_params.proofs.params.first_broken_factor.Goals as goal

pub returns-in-Some : goal.returns-in-Some
returns-in-Some c =
    sym
    (c.loop-place.invariant
    ∙ fails_at (λ place one. topic_factor_checks place one.factors) c.args.topics.now c.loop-place.place
    c.index-topics-place.result c.loop-place-test.true c.index-topics-place.is c.in-Some.check
    (ap first_broken (sym c.checks.ensures) ∙ sym c.first_broken.ensures ∙ c.in-Some.is))

pub loop-place-preserved : goal.loop-place-preserved
loop-place-preserved c =
    c.loop-place.invariant
    ∙ holds_at (λ place one. topic_factor_checks place one.factors) c.args.topics.now c.loop-place.place
    c.index-topics-place.result c.loop-place-test.true c.index-topics-place.is
    (ap first_broken (sym c.checks.ensures) ∙ sym c.first_broken.ensures ∙ c.in_default.is)
