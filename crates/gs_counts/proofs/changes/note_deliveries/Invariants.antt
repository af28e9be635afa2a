use Rattle.std.proofs.Common.{◌≡◌, ◌++◌, take}
use Rattle.std.specs.List.{flat_map}
use Rattle.gs_counts.specs.Changes.{delivery_happenings}
use Rattle.gs_counts.proofs.changes.note_deliveries.Given as goal

-- the deliveries so far come after what was listed
abbrev pub invariant-loop-delivery : goal.invariant-loop-delivery
invariant-loop-delivery l = l.list.items ≡ l.initial.list.items ++ flat_map (delivery_happenings l.scene) (take l.delivery-index l.delivered)
