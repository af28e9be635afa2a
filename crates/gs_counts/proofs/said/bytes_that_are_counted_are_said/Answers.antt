use Rattle.gs_counts.proofs.SaidBytes.{counted_is_said}
use Rattle.gs_counts.proofs.said.bytes_that_are_counted_are_said.Goals as goal

pub returns : goal.returns
returns c = counted_is_said
