use Rattle.gs_edit.proofs.Holding.{other_keys_stay}
use Rattle.gs_edit.proofs.laws.other_keys_stay.Goals as goal

pub returns : goal.returns
returns c = other_keys_stay
