use Rattle.std.proofs.Common.{◌∙◌}
use Rattle.gs_router.proofs.tables.kept_messages.Messages.note_event.Goals as goal

pub returns-in-Step-clause-agrees : goal.returns-in-Step-clause-agrees
returns-in-Step-clause-agrees c = λ e L is agrees. c.note_step.ensures.agrees e L (is ∙ c.in-Step.is) agrees
