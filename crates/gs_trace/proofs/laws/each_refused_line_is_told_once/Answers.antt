use Rattle.gs_trace.proofs.ToldRefusals.{refusals_told}
use Rattle.gs_trace.proofs.laws.each_refused_line_is_told_once.Goals as goal

pub returns : goal.returns
returns c = refusals_told
