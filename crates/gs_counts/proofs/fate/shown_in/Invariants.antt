use Rattle.std.proofs.Common.{◌≡◌, drop}
use Rattle.gs_counts.specs.Fates.{shown}
use Rattle.gs_counts.proofs.fate.shown_in.Given as goal

-- the marks that are left show what all show
abbrev pub invariant-loop-mark : goal.invariant-loop-mark
invariant-loop-mark l = shown l.marks ≡ shown (drop l.mark-index l.marks)
