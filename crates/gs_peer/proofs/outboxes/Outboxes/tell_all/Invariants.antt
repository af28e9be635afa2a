use Rattle.std.proofs.Common.{◌≡◌, drop}
use Rattle.gs_base.specs.declared.names.PeerNo.{PeerNo}
use Rattle.gs_wire.specs.Codec.{codec}
use Rattle.gs_rules.specs.Saying.{AllFit}
use Rattle.gs_peer.specs.Outboxes.{after_entries, is_open, opens_after, outgoing_in}
use Rattle.gs_peer.proofs.outboxes.Outboxes.tell_all.Given as goal

-- the entries that are left make of it what all of them make
abbrev pub invariant-loop-entry : goal.invariant-loop-entry
invariant-loop-entry l = record {
  fit : AllFit codec (drop l.entry-index l.entries);
  told : (q : PeerNo) → after_entries q (is_open l.self q) (outgoing_in l.self q) (drop l.entry-index l.entries) ≡ after_entries q (is_open l.fn.self q) (outgoing_in l.fn.self q) l.entries;
  may : (q : PeerNo) → opens_after q (is_open l.self q) (drop l.entry-index l.entries) ≡ opens_after q (is_open l.fn.self q) l.entries;
}
