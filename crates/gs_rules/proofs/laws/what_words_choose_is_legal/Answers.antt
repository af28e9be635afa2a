use Rattle.gs_rules.specs.Modes.{choiceless, exact, free}
use Rattle.gs_rules.proofs.Legality.{choiceless_is_exact, exact_is_free, follows_weakly, legal_weakly}
use Rattle.gs_rules.proofs.laws.what_words_choose_is_legal.Goals as goal

pub returns-clause-exact : goal.returns-clause-exact
returns-clause-exact g c = legal_weakly (exact g.W.Words.word g.W.Words.after) free (λ u. tt) (exact_is_free g.W.Words.word g.W.Words.after)

pub returns-clause-choiceless : goal.returns-clause-choiceless
returns-clause-choiceless g c = λ p s first later legal. legal_weakly choiceless (exact g.W.Words.word g.W.Words.after) (λ u. s) (choiceless_is_exact g.W.Words.word g.W.Words.after s) p tt tt first later legal

pub returns-clause-rule : goal.returns-clause-rule
returns-clause-rule g c = λ r s t e. follows_weakly (exact g.W.Words.word g.W.Words.after) free (λ u. tt) (exact_is_free g.W.Words.word g.W.Words.after) r s e t
