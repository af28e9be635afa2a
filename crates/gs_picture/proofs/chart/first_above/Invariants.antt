use Rattle.std.proofs.Common.{◌≡◌, drop}
use Rattle.gs_picture.specs.Chart.{first_above}
use Rattle.gs_picture.proofs.chart.first_above.Given as goal

-- those that are left have the first that all have
abbrev pub invariant-loop-spacing : goal.invariant-loop-spacing
invariant-loop-spacing l = first_above l.number l.spacings ≡ first_above l.number (drop l.spacing-index l.spacings)
