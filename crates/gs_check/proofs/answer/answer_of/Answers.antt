use Rattle.gs_check.proofs.Readings.{accepted_answers}
use Rattle.gs_check.proofs.answer.answer_of.Goals as goal

pub returns-in-Ok : goal.returns-in-Ok
returns-in-Ok c =
    accepted_answers c.args.limits c.args.bytes.now c.in-Ok.plan c.summary.result c.answered.result c.in-Ok.ensures.found c.summary.ensures c.answered.ensures.text c.answered.ensures.none
