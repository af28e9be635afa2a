use Rattle.std.proofs.Common.{ap, sym, ◌∙◌}
use Rattle.gs_params.specs.Checks.{factor_checks, first_broken, each_topic_from, topic_factor_checks}
use Rattle.gs_params.proofs.Broken.{in_the_first}
use Rattle.gs_params.proofs.params.Params.first_broken_factor.Goals as goal

pub returns-in-Some : goal.returns-in-Some
returns-in-Some c =
    sym
    (in_the_first (factor_checks c.args.self.now.factors)
    (each_topic_from (λ place one. topic_factor_checks place one.factors) 0 c.args.self.now.topics) c.in-Some.check
    (ap first_broken (sym c.checks.ensures) ∙ sym c.first_broken.ensures ∙ c.in-Some.is))
