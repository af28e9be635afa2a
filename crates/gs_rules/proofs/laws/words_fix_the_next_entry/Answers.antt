use Rattle.gs_rules.proofs.Legality.{next_alone}
use Rattle.gs_rules.proofs.laws.words_fix_the_next_entry.Goals as goal

pub returns : goal.returns
returns g c = λ p s t u first later e f. next_alone g.W.Words.word g.W.Words.after p s first later e f t u
