use Rattle.std.proofs.Common.{ap, ap₂, sym, ◌∙◌}
use Rattle.std.proofs.lemmas.Result.{on_ok_weaker}
use Rattle.gs_rules.specs.Tables.{after_marks}
use Rattle.gs_counts.specs.Meshes.{members_after}
use Rattle.gs_counts.specs.Topics.{subscribed_after}
use Rattle.gs_counts.specs.Verdicts.{ignored_after}
use Rattle.gs_counts.proofs.Memories.{ignored_more}
use Rattle.gs_counts.proofs.memory.Memory.note.Goals as goal

pub returns : goal.returns
returns c =
    on_ok_weaker
    c.note_marks.result
    (λ ignored L was. record {
      topics = c.in_ok-note.ensures.topics ∙ ap (subscribed_after c.args.entry.now.event) was.topics;
      members = c.in_ok-note.ensures.members ∙ ap (after_marks members_after c.args.entry.now.effects.marks) was.members;
      ignored = λ id.
          ignored id
          ∙ ap₂ (λ marks before. ignored_after id marks before) c.marks.ensures (was.ignored id)
          ∙ sym (ignored_more id c.args.entry.now L);
    })
    c.note_marks.ensures
