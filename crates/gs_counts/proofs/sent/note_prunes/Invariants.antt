use Rattle.std.proofs.Common.{◌≡◌, ◌++◌, take}
use Rattle.std.specs.List.{flat_map}
use Rattle.gs_counts.specs.Sent.{prune_sent}
use Rattle.gs_counts.proofs.sent.note_prunes.Given as goal

-- the PRUNEs so far come after what was listed
abbrev pub invariant-loop-prune : goal.invariant-loop-prune
invariant-loop-prune l = l.list.items ≡ l.initial.list.items ++ flat_map (prune_sent l.scene) (take l.prune-index l.prunes)
