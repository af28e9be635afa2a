use Rattle.std.proofs.Common.{◌≡◌, [], ℕ, rules, sym, subst}
use Rattle.gs_seats.specs.ListsByPeer.{list_at}
use Rattle.gs_seats.proofs.PlaceLists.{still_empty}
use Rattle.gs_seats.proofs.lists_by_peer.empty_lists.Goals as goal

pub loop-preserved : goal.loop-preserved
loop-preserved g c = record {
  count = search rules;
  empty = subst (λ lists. (n : ℕ) → list_at lists n ≡ []) (sym c.in_ok-push.ensures.items) (still_empty c.loop.lists.items c.new.result c.loop.invariant.empty c.new.ensures.items);
}
