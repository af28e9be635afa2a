use Rattle.std.proofs.Common.{◌≡◌, ◌++◌, take}
use Rattle.std.specs.List.{flat_map}
use Rattle.gs_report.specs.Text.{score_line}
use Rattle.gs_report.proofs.text.push_each_score.Given as goal

-- the lines of the scores so far come after what was there
abbrev pub invariant-loop-score : goal.invariant-loop-score
invariant-loop-score l =
    l.text.items ≡ l.initial.text.items ++ flat_map (score_line l.plan l.name) (take l.score-index l.scores)
