use Rattle.std.proofs.Common.{refl}
use Rattle.gs_wire.specs.Codec.{codec}
use Rattle.gs_peer.specs.Outboxes.{is_open, outgoing_in}
use Rattle.gs_peer.proofs.BoxPlaces.{sends_told}
use Rattle.gs_peer.proofs.outboxes.Outboxes.send_all.Goals as goal

pub loop-to-init : goal.loop-to-init
loop-to-init c = record {
  fit = c.requires;
  told = λ q. sends_told codec q (is_open c.args.self.now q) (outgoing_in c.args.self.now q) c.args.sends.now;
  may = λ q. refl;
}
