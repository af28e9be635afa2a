use Rattle.std.proofs.Common.{◌≡◌, drop}
use Rattle.gs_base.specs.declared.names.MsgId.{MsgId}
use Rattle.gs_counts.specs.Fates.{was_ignored}
use Rattle.gs_counts.specs.Verdicts.{ignored_after}
use Rattle.gs_counts.proofs.verdicts.Verdicts.note_marks.Given as goal

-- the marks that are left say of what is known what all say of what was known before
abbrev pub invariant-loop-mark : goal.invariant-loop-mark
invariant-loop-mark l =
    (id : MsgId) → ignored_after id (drop l.mark-index l.marks) (was_ignored l.self id) ≡ ignored_after id l.marks (was_ignored l.initial.self id)
