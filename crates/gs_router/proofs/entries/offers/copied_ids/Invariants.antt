use Rattle.std.proofs.Common.{◌≡◌, ◌++◌, drop}
use Rattle.gs_router.proofs.entries.offers.copied_ids.Given as goal

abbrev pub invariant-loop-id : goal.invariant-loop-id
invariant-loop-id l = l.list ++ drop l.id-index l.ids ≡ l.ids
