use Rattle.std.proofs.Common.{refl}
use Rattle.gs_counts.specs.Kinds.{all_kinds}
use Rattle.gs_counts.proofs.counts.no_counts.Goals as goal

pub returns : goal.returns
unfolding all_kinds
returns c = refl
