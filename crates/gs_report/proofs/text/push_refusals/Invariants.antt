use Rattle.std.proofs.Common.{◌≡◌, ◌++◌, take}
use Rattle.std.specs.List.{flat_map}
use Rattle.gs_report.specs.Text.{refused_line}
use Rattle.gs_report.proofs.text.push_refusals.Given as goal

-- the lines of the refusals so far come after what was there
abbrev pub invariant-loop-refusal : goal.invariant-loop-refusal
invariant-loop-refusal l =
    l.text.items ≡ l.initial.text.items ++ flat_map (refused_line l.plan l.name) (take l.refusal-index l.refusals)
