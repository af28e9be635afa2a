use Rattle.std.proofs.Common.{◌≡◌, drop}
use Rattle.gs_params.specs.Checks.{first_broken}
use Rattle.gs_params.proofs.checks.first_broken.Given as goal

-- the first that fails is still to come
abbrev pub invariant-loop-check : goal.invariant-loop-check
invariant-loop-check l = first_broken l.checks ≡ first_broken (drop l.check-index l.checks)
