use Rattle.std.proofs.Common.{◌≡◌, ℕ, [], length}
use Rattle.gs_seats.specs.ListsByPeer.{list_at}
use Rattle.gs_seats.proofs.lists_by_peer.empty_lists.Given as goal

abbrev pub invariant-loop : goal.invariant-loop
invariant-loop g l = record {
  count : length l.lists.items ≡ l.counter;
  empty : (n : ℕ) → list_at l.lists.items n ≡ [];
}
