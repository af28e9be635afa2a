use Rattle.std.proofs.Common.{◌≡◌, ◌++◌, map}
use Rattle.std.specs.List.{All}
use Rattle.std.specs.Vec.Iter.{into_iter_items}
use Rattle.gs_ends.specs.Lists.{BringsSendable, fresh_ends}
use Rattle.gs_ends.proofs.list_ends.ListEnds.new.Given as goal

abbrev pub invariant-loop-who : goal.invariant-loop-who
invariant-loop-who l =
    (l.list.items ++ map (fresh_ends l.fn.room) (into_iter_items l.who-iterator) ≡ map (fresh_ends l.fn.room) l.fn.inbound.items)
    × All BringsSendable (into_iter_items l.who-iterator)
