use Rattle.std.proofs.Common.{◌≡◌, drop}
use Rattle.gs_rules.specs.Tables.{after_marks}
use Rattle.gs_counts.specs.Meshes.{members_after}
use Rattle.gs_counts.proofs.meshes.note_marks.Given as goal

-- what the marks that are left make of the members is what all make of those before
abbrev pub invariant-loop-mark : goal.invariant-loop-mark
invariant-loop-mark l = after_marks members_after (drop l.mark-index l.marks) l.members.items
    ≡ after_marks members_after l.marks l.initial.members.items
