use Rattle.std.proofs.Common.{rules}
use Rattle.gs_peer.proofs.SameRpc.{same_rpc}
use Rattle.gs_peer.proofs.frames.is_same.Goals as goal

pub returns : goal.returns
returns c = λ yes. same_rpc c.args.known.now c.args.rpc.now (search rules)
