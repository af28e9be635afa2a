use Rattle.std.proofs.Common.{◌≡◌, ◌++◌, take}
use Rattle.std.specs.List.{flat_map}
use Rattle.gs_counts.specs.Sent.{ihave_sent}
use Rattle.gs_counts.proofs.sent.note_offers.Given as goal

-- the offers so far come after what was listed
abbrev pub invariant-loop-offer : goal.invariant-loop-offer
invariant-loop-offer l = l.list.items ≡ l.initial.list.items ++ flat_map (ihave_sent l.scene) (take l.offer-index l.offers)
