use Rattle.gs_rules.proofs.Legality.{follows_alone}
use Rattle.gs_rules.proofs.laws.words_fix_what_follows_a_rule.Goals as goal

pub returns : goal.returns
returns g c = λ r s t u e f. follows_alone g.W.Words.word g.W.Words.after r s e f t u
