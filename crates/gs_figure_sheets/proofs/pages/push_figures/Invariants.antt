use Rattle.std.proofs.Common.{◌≡◌, ◌++◌, map, take}
use Rattle.gs_figure_sheets.specs.Figures.{figure_column}
use Rattle.gs_figure_sheets.proofs.pages.push_figures.Given as goal

-- the columns so far come after what was there
abbrev pub invariant-loop-figure : goal.invariant-loop-figure
invariant-loop-figure l = l.columns ≡ l.initial.columns ++ map (figure_column l.parties) (take l.figure-index l.figures)
