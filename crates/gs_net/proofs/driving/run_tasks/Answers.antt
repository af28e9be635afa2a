use denote.Param.Send.{sendable}
use Rattle.std.proofs.Crossing.{crosses}
use Rattle.gs_net.proofs.Crosses.{task}
use Rattle.gs_net.proofs.driving.run_tasks.Goals as goal

pub run_all-requires-send-F : goal.run_all-requires-send-F
run_all-requires-send-F g c κs within =
    let crossing = task _ _ c.type_bounds.send-G c.type_bounds.send-S in
    search (sendable, crosses) depth 8
