use Rattle.std.proofs.Common.{[], reverse, refl}
use Rattle.gs_seats.specs.Rounds.{peer_in}
use Rattle.gs_trace.proofs.readers.reader_of.Goals as goal

pub returns : goal.returns
returns c = record {
  view = record { peer = peer_in c.args.plan.now c.args.peer.now.0; before = []; left = reverse c.args.peer.now.1.trace };
  follows = c.in_ok-reader.ensures;
  peer = refl;
  left = λ low. refl;
}
