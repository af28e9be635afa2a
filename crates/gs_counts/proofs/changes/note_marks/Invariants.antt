use Rattle.std.proofs.Common.{◌≡◌, ◌++◌, take}
use Rattle.std.specs.List.{flat_map}
use Rattle.gs_counts.specs.Changes.{mark_happenings}
use Rattle.gs_counts.proofs.changes.note_marks.Given as goal

-- the marks so far come after what was listed
abbrev pub invariant-loop-mark : goal.invariant-loop-mark
invariant-loop-mark l = l.list.items ≡ l.initial.list.items ++ flat_map (mark_happenings l.scene l.event) (take l.mark-index l.marks)
