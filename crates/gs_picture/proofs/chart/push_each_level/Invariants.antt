use Rattle.std.proofs.Common.{◌≡◌, ◌++◌, take}
use Rattle.std.specs.List.{flat_map}
use Rattle.gs_picture.specs.Chart.{level_text}
use Rattle.gs_picture.proofs.chart.push_each_level.Given as goal

-- the lines so far come after what was there
abbrev pub invariant-loop-quarters : goal.invariant-loop-quarters
invariant-loop-quarters l = l.text.items ≡ l.initial.text.items ++ flat_map level_text (take l.quarters-index l.levels)
