use Rattle.std.proofs.Common.{◌≡◌, length, take}
use Rattle.gs_net.specs.Dials.{AreWired, AtEach, HasCapacity, IsFresh}
use Rattle.gs_net.proofs.dials.wiring.wire_all.Given as goal

abbrev pub invariant-loop-dial : goal.invariant-loop-dial
invariant-loop-dial l = record {
  count : length l.lists.items ≡ l.fn.peers;
  wired : AreWired (take l.dial-index l.dials) l.lists.items;
  sized : AtEach (HasCapacity l.fn.capacity) l.lists.items;
  fresh : AtEach IsFresh l.lists.items;
}
