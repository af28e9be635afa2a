use Rattle.gs_cache.proofs.Counting.{sighted_needs, noted_needs}
use Rattle.gs_cache.proofs.laws.a_step_needs_only_what_counts.Goals as goal

pub returns : goal.returns
returns c = record { sighted = sighted_needs; noted = noted_needs }
