use Rattle.std.proofs.Common.{rules}
use Rattle.gs_mesh.specs.Cuts.{best_by_score}
use Rattle.gs_mesh.proofs.cut.best_by_score.Goals as goal

pub returns : goal.returns
unfolding best_by_score
returns c = search rules
