use Rattle.std.proofs.Common.{◌≡◌, take}
use Rattle.gs_figure_sheets.proofs.lines.scores_in.Given as goal

-- the scores so far
abbrev pub invariant-loop-score : goal.invariant-loop-score
invariant-loop-score l = l.list ≡ take l.score-index l.scores
