use Rattle.gs_ends.proofs.InOrder.{in_front, wholly_taken}
use Rattle.gs_ends.proofs.list_ends.ListEnds.prove_taken_in_order.Goals as goal

pub returns-clause-front : goal.returns-clause-front
returns-clause-front c = in_front _

pub returns-clause-whole : goal.returns-clause-whole
returns-clause-whole c = wholly_taken _
