use Rattle.gs_link.proofs.Flats.{flat-append}
use Rattle.gs_link.proofs.laws.what_stands_after_is_said_later.Goals as goal

pub returns : goal.returns
returns c = flat-append
