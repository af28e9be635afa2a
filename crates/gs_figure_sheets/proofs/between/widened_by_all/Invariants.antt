use Rattle.std.proofs.Common.{◌≡◌, fold, take}
use Rattle.gs_counts.specs.Meshes.{widened}
use Rattle.gs_figure_sheets.specs.Between.{scores_about}
use Rattle.gs_figure_sheets.proofs.between.widened_by_all.Given as goal

-- the span with what the scores so far say
abbrev pub invariant-loop-score : goal.invariant-loop-score
invariant-loop-score l = l.wider ≡ fold widened l.fn.span (scores_about l.about (take l.score-index l.scores))
