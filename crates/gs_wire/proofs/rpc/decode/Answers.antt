use Rattle.std.proofs.Common.{rules}
use Rattle.gs_wire.proofs.rpc.decode.Goals as goal

pub returns-in-Err-Malformed-clause-malformed : goal.returns-in-Err-Malformed-clause-malformed
returns-in-Err-Malformed-clause-malformed c = λ e rpc spelled. c.in-Err-Malformed.ensures.malformed (search rules) rpc spelled
