use Rattle.gs_program.proofs.Planned.{goes_on_with}
use Rattle.gs_program.proofs.reading.plan_after.Goals as goal

pub returns-in-Ok-clause-goes_on : goal.returns-in-Ok-clause-goes_on
returns-in-Ok-clause-goes_on g c =
    let planned = c.plan_from.ensures in
    rw c.in-Ok.is (goes_on_with c.args.limits c.in-Ok.text.items c.deref.result.now c.plan_from.result c.go_on.result _ _ c.deref.ensures.value planned.found planned.in_range planned.refused c.go_on.ensures.goes_on)
