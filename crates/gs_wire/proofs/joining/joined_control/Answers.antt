use Rattle.std.proofs.Common.{◌∙◌, map, sym}
use Rattle.gs_wire.specs.Joining.{joined_rpcs}
use Rattle.gs_wire.specs.Gathering.{as_one}
use Rattle.gs_wire.proofs.JoinedLists.{some_control}
use Rattle.gs_wire.proofs.ControlKinds.{all_control_is}
use Rattle.gs_wire.proofs.joining.joined_control.Goals as goal

pub returns : goal.returns
returns g c =
    let all = as_one (joined_rpcs (map g.R.HoldsRpc.held c.args.rpcs.now)) in
    rw (c.in_ok-control.ensures, all_control_is g.R.HoldsRpc.held c.args.rpcs.now) (some_control all.control (sym c.if-not-controlled.false ∙ c.requires))
