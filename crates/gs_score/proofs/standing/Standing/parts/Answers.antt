use Rattle.std.proofs.Common.{◌^◌, lit<, refl}
use Rattle.gs_score.proofs.Bounds.{back}
use Rattle.gs_score.proofs.standing.Standing.parts.Goals as goal

pub returns : goal.returns
returns c =
    rw (back c.part.result (10 ^ 25) c.part.ensures.bound (lit< tt), c.part.ensures.value, c.time_in_mesh.ensures c.args.decays, c.first_message_deliveries.ensures, c.mesh_message_deliveries.ensures, c.mesh_failure_penalty.ensures, c.invalid_message_deliveries.ensures)
    refl
