use Rattle.std.proofs.Common.{◌≡◌}
use Rattle.gs_report.specs.Seen.{numbers_below}
use Rattle.gs_figure_sheets.proofs.inquiry.numbers_below.Given as goal

-- the numbers below this one
abbrev pub invariant-loop-number : goal.invariant-loop-number
invariant-loop-number l = l.numbers.items ≡ numbers_below l.number
