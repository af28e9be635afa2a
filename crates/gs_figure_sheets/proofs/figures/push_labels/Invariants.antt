use Rattle.std.proofs.Common.{◌≡◌, ◌++◌, map, take}
use Rattle.gs_figure_sheets.specs.Rows.{label_value}
use Rattle.gs_figure_sheets.proofs.figures.push_labels.Given as goal

-- the labels so far come after what was there
abbrev pub invariant-loop-label : goal.invariant-loop-label
invariant-loop-label l = l.row ≡ l.initial.row ++ map label_value (take l.label-index l.labels)
