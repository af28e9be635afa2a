use Rattle.std.specs.Prelude.{pos, unwrap_or}
use Rattle.gs_seats.proofs.known.Known.of.Goals as goal

pub returns : goal.returns
returns c = λ address q i. record {
  peer = q;
  outbound = c.in_ok-dialled.ensures q i;
  address = address;
  app = unwrap_or (c.in_ok-scores.ensures q i) (pos 0);
  explicit = c.in_ok-agreed.ensures q i;
}
