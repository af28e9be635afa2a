use Rattle.gs_wire.proofs.JoinedRpcs.{both_spelled, both_bodies_spelled}
use Rattle.gs_wire.proofs.laws.bodies_in_a_row_spell_the_joined_rpc.Goals as goal

pub returns-clause-spelled : goal.returns-clause-spelled
returns-clause-spelled c = both_spelled

pub returns-clause-written : goal.returns-clause-written
returns-clause-written c = both_bodies_spelled
