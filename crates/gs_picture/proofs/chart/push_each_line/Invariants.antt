use Rattle.std.proofs.Common.{◌≡◌, ◌++◌, take}
use Rattle.std.specs.List.{flat_map}
use Rattle.gs_picture.specs.Chart.{line_text}
use Rattle.gs_picture.proofs.chart.push_each_line.Given as goal

-- the lines so far come after what was there
abbrev pub invariant-loop-pairs : goal.invariant-loop-pairs
invariant-loop-pairs l = l.text.items ≡ l.initial.text.items ++ flat_map (line_text l.axis l.kind) (take l.pairs-index l.courses)
