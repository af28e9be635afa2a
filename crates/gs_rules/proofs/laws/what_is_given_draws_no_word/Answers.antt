use Rattle.gs_rules.proofs.Legality.{given_quietly}
use Rattle.gs_rules.proofs.laws.what_is_given_draws_no_word.Goals as goal

pub returns : goal.returns
returns g c = given_quietly g.W.Words.word g.W.Words.after
