use Rattle.std.proofs.Common.{arith}
use Rattle.gs_reach.proofs.spread.ninety_ninth_rank.Goals as goal

pub returns : goal.returns
returns c = omega arith
