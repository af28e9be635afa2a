use Rattle.std.proofs.Common.{arith, refl}
use Rattle.gs_opinions.proofs.tables.Tables.new.Goals as goal

pub returns : goal.returns
returns c = let lasts = c.requires.some_time in record {
  lasts = omega (arith, lasts);
  round_ms = refl;
  pairs = c.in_ok-pairs.ensures;
  rounds = c.in_ok-rounds.ensures;
  groups = c.in_ok-groups.ensures;
}
