use Rattle.std.proofs.Common.{◌≡◌, if◌then◌else◌, drop}
use Rattle.gs_base.specs.declared.names.PeerNo.{PeerNo}
use Rattle.gs_wire.specs.Codec.{codec}
use Rattle.gs_rules.specs.Modes.{sent_to}
use Rattle.gs_rules.specs.Saying.{SendsFit, sending_all}
use Rattle.gs_peer.specs.Outboxes.{is_open, outgoing_in}
use Rattle.gs_peer.proofs.BoxPlaces.{after_sends}
use Rattle.gs_peer.proofs.outboxes.Outboxes.send_all.Given as goal

-- the sends that are left make of it what all of them make
abbrev pub invariant-loop-to : goal.invariant-loop-to
invariant-loop-to l = record {
  fit : SendsFit codec (drop l.to-index l.sends);
  told : (q : PeerNo) → after_sends codec q (is_open l.fn.self q) (outgoing_in l.self q) (drop l.to-index l.sends) ≡ (if is_open l.fn.self q then sending_all codec (outgoing_in l.fn.self q) (sent_to q l.sends) else outgoing_in l.fn.self q);
  may : (q : PeerNo) → is_open l.self q ≡ is_open l.fn.self q;
}
