use Rattle.std.proofs.Common.{◌≡◌, ◌++◌, length, take}
use Rattle.gs_base.specs.declared.names.PeerNo.{PeerNo}
use Rattle.gs_seats.specs.ListsByPeer.{list_at}
use Rattle.gs_direct.specs.Outlets.{IsHandedOver, given}
use Rattle.gs_direct.proofs.Pairs.{Reached}
use Rattle.gs_direct.proofs.outlets.hand_over.Given as goal

-- those so far are handed over
abbrev pub invariant-loop-outlet : goal.invariant-loop-outlet
invariant-loop-outlet l = record {
  count : length l.mail.items ≡ length l.fn.mail.items;
  given : (p : PeerNo) → list_at l.mail.items p.0 ≡ list_at l.fn.mail.items p.0 ++ given l.from (take l.outlet-index l.fn.outlets) p;
  handed : Reached IsHandedOver l.outlet-index l.fn.outlets l.outlets;
}
