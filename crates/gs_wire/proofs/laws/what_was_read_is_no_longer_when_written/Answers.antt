use Rattle.gs_wire.proofs.Shorter.{body_shorter}
use Rattle.gs_wire.proofs.laws.what_was_read_is_no_longer_when_written.Goals as goal

pub returns : goal.returns
returns c = body_shorter
