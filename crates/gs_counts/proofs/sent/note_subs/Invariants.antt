use Rattle.std.proofs.Common.{◌≡◌, ◌++◌, take}
use Rattle.std.specs.List.{flat_map}
use Rattle.gs_counts.specs.Sent.{sub_sent}
use Rattle.gs_counts.proofs.sent.note_subs.Given as goal

-- the changes so far come after what was listed
abbrev pub invariant-loop-sub : goal.invariant-loop-sub
invariant-loop-sub l = l.list.items ≡ l.initial.list.items ++ flat_map (sub_sent l.scene) (take l.sub-index l.subs)
