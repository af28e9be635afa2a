use Rattle.std.proofs.Common.{◌≡◌, take}
use Rattle.std.specs.Prelude.{fold}
use Rattle.gs_picture.specs.Discs.{lower, scores_about}
use Rattle.gs_picture.proofs.discs.lower_by_all.Given as goal

-- with the scores so far
abbrev pub invariant-loop-score : goal.invariant-loop-score
invariant-loop-score l = l.lowest ≡ fold lower l.fn.so_far (scores_about l.peer (take l.score-index l.scores))
