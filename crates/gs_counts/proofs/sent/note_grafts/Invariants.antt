use Rattle.std.proofs.Common.{◌≡◌, ◌++◌, take}
use Rattle.std.specs.List.{flat_map}
use Rattle.gs_counts.specs.Sent.{graft_sent}
use Rattle.gs_counts.proofs.sent.note_grafts.Given as goal

-- the GRAFTs so far come after what was listed
abbrev pub invariant-loop-graft : goal.invariant-loop-graft
invariant-loop-graft l = l.list.items ≡ l.initial.list.items ++ flat_map (graft_sent l.scene) (take l.graft-index l.grafts)
