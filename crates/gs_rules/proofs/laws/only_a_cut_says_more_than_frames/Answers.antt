use Rattle.gs_rules.proofs.Gathered.{uncut_raw, uncut_sign}
use Rattle.gs_rules.proofs.laws.only_a_cut_says_more_than_frames.Goals as goal

pub returns-clause-raw : goal.returns-clause-raw
returns-clause-raw c = uncut_raw

pub returns-clause-sign : goal.returns-clause-sign
returns-clause-sign c = uncut_sign
