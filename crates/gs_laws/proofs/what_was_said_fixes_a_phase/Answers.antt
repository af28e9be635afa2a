use Rattle.gs_laws.proofs.Heard.{phase_fixed}
use Rattle.gs_laws.proofs.what_was_said_fixes_a_phase.Goals as goal

pub returns : goal.returns
returns g c = phase_fixed g.W.Words.word g.W.Words.after
