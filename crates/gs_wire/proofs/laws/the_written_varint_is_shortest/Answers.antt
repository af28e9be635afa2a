use Rattle.gs_wire.proofs.Varints.{written_varint, written_shortest}
use Rattle.gs_wire.proofs.laws.the_written_varint_is_shortest.Goals as goal

pub returns-clause-spells : goal.returns-clause-spells
returns-clause-spells c = written_varint

pub returns-clause-shortest : goal.returns-clause-shortest
returns-clause-shortest c = λ text n h. written_shortest 9 text n h.groups
