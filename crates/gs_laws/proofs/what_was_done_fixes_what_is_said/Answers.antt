use Rattle.gs_laws.proofs.Spoken.{all_said, rounds_said}
use Rattle.gs_laws.proofs.what_was_done_fixes_what_is_said.Goals as goal

pub returns-clause-rounds : goal.returns-clause-rounds
returns-clause-rounds c = rounds_said

pub returns-clause-all : goal.returns-clause-all
returns-clause-all c = all_said
