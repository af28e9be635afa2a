use Rattle.gs_counts.proofs.SaidBytes.{legal_fits}
use Rattle.gs_counts.proofs.said.all_of_a_legal_trace_counts.Goals as goal

pub returns : goal.returns
returns c = λ p L legal. legal_fits p L legal
