use Rattle.gs_wire.proofs.Readers.{reader_holds}
use Rattle.gs_wire.proofs.laws.a_reader_holds_the_unread_end.Goals as goal

pub returns : goal.returns
returns c = reader_holds
