use Rattle.gs_check.proofs.Readings.{answers_reading}
use Rattle.gs_check.proofs.program.finish.Goals as goal

pub returns-clause-ends : goal.returns-clause-ends
returns-clause-ends g c input whole =
    c.tell.ensures.ends c.args.limits input (answers_reading c.args.limits input c.args.reading c.answer_after.result c.answer_after.ensures.read c.answer_after.ensures.unread whole)
