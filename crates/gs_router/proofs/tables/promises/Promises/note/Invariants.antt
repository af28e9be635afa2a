use Rattle.std.proofs.Common.{◌≡◌, drop}
use Rattle.gs_rules.specs.Tables.{after_marks, ended_after, fulfilled_after}
use Rattle.gs_router.proofs.tables.promises.Promises.note.Given as goal

abbrev pub invariant-loop-mark : goal.invariant-loop-mark
invariant-loop-mark l =
    after_marks fulfilled_after (drop l.mark-index l.mark-items) l.self.waiting.items
    ≡ after_marks fulfilled_after l.entry.effects.marks (ended_after l.entry.event l.entry.at.0 l.fn.self.waiting.items)
