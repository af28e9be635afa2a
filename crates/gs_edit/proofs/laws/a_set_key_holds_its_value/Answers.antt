use Rattle.gs_edit.proofs.Holding.{key_there}
use Rattle.gs_edit.proofs.laws.a_set_key_holds_its_value.Goals as goal

pub returns : goal.returns
returns c = key_there
