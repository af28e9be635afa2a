use Rattle.gs_wire.proofs.JoinedLists.{rpc_of_all}
use Rattle.gs_wire.proofs.joining.joined.Goals as goal

pub returns : goal.returns
returns g c =
    rw (c.in_ok-all_of.ensures, c.in_ok-all_of-2.ensures, c.in_ok-joined_control.ensures) (rpc_of_all g.R.HoldsRpc.held c.args.rpcs.now)
