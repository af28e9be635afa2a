use Rattle.gs_wire.proofs.JoinedRpcs.{joined_body_shorter}
use Rattle.gs_wire.proofs.laws.a_joined_body_is_no_longer.Goals as goal

pub returns : goal.returns
returns c = joined_body_shorter
