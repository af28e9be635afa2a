use Rattle.gs_mesh.proofs.Cutting.{exact_cut_is_cut, exact_cut_is_one}
use Rattle.gs_mesh.proofs.cut.a_cut_by_words_is_a_cut.Goals as goal

pub returns-clause-cut : goal.returns-clause-cut
returns-clause-cut g c = exact_cut_is_cut g.W.Words.word g.W.Words.after

pub returns-clause-determined : goal.returns-clause-determined
returns-clause-determined g c = exact_cut_is_one g.W.Words.word g.W.Words.after
