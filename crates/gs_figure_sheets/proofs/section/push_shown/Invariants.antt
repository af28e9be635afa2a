use Rattle.std.proofs.Common.{◌≡◌, ◌++◌, take}
use Rattle.std.specs.Prelude.{filter}
use Rattle.gs_figure_sheets.specs.Sections.{is_shown}
use Rattle.gs_figure_sheets.proofs.section.push_shown.Given as goal

-- those so far that stand there come after what was there
abbrev pub invariant-loop-figure : goal.invariant-loop-figure
invariant-loop-figure l = l.figures.items ≡ l.initial.figures.items ++ filter (is_shown l.subject) (take l.figure-index l.all)
