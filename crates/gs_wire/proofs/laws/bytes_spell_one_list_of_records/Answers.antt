use Rattle.gs_wire.proofs.RecordLists.{one_list}
use Rattle.gs_wire.proofs.laws.bytes_spell_one_list_of_records.Goals as goal

pub returns : goal.returns
returns c = λ bytes rs qs. one_list rs qs bytes
