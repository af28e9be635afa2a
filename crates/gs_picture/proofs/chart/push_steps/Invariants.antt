use Rattle.std.proofs.Common.{◌≡◌, ◌++◌, take}
use Rattle.std.specs.List.{flat_map}
use Rattle.gs_picture.specs.Chart.{step_text}
use Rattle.gs_picture.proofs.chart.push_steps.Given as goal

-- the steps so far come after what was there
abbrev pub invariant-loop-step : goal.invariant-loop-step
invariant-loop-step l = l.text.items ≡ l.initial.text.items ++ flat_map (step_text l.axis l.count) (take l.step-index l.steps)
