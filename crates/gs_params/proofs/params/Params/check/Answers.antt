use Rattle.std.proofs.Common.{ap, sym, ◌∙◌}
use Rattle.gs_params.specs.Checks.{first_broken}
use Rattle.gs_params.proofs.InRange.{from_checks}
use Rattle.gs_params.proofs.params.Params.check.Goals as goal

pub returns-clause-in_range : goal.returns-clause-in_range
returns-clause-in_range c =
    from_checks _ (ap first_broken (sym c.checks.ensures) ∙ sym c.first_broken.ensures ∙ c.in_default.is) (ap first_broken (sym c.checks-2.ensures) ∙ sym c.first_broken-2.ensures ∙ c.in_default-first_broken.is)
    (sym c.first_broken_factor.ensures ∙ c.in_default-first_broken_factor.is) (sym c.first_broken_timing.ensures ∙ c.in_default-first_broken_timing.is)
