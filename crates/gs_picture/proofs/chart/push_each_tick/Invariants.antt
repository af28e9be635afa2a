use Rattle.std.proofs.Common.{◌≡◌, ◌++◌, take}
use Rattle.std.specs.List.{flat_map}
use Rattle.gs_picture.specs.Chart.{tick_text}
use Rattle.gs_picture.proofs.chart.push_each_tick.Given as goal

-- the lines so far come after what was there
abbrev pub invariant-loop-tick : goal.invariant-loop-tick
invariant-loop-tick l = l.text.items ≡ l.initial.text.items ++ flat_map (tick_text l.axis) (take l.tick-index l.ticks)
