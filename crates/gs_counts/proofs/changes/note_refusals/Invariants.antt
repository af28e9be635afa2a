use Rattle.std.proofs.Common.{◌≡◌, ◌++◌, take}
use Rattle.std.specs.List.{flat_map}
use Rattle.gs_counts.specs.Changes.{refusal_happenings}
use Rattle.gs_counts.proofs.changes.note_refusals.Given as goal

-- the lines so far come after what was listed
abbrev pub invariant-loop-line : goal.invariant-loop-line
invariant-loop-line l = l.list.items ≡ l.initial.list.items ++ flat_map (refusal_happenings l.peer) (take l.line-index l.refused)
