use Rattle.std.proofs.Common.{List, ap, ◌∙◌}
use Rattle.gs_rules.specs.declared.fallen.Fallen.{Fallen}
use Rattle.gs_snapshots.specs.declared.summary.Summary.{Summary}
use Rattle.gs_snapshots.specs.Noting.{with_each}
use Rattle.gs_snapshots.proofs.summaries.note_wanted.Goals as goal

pub returns : goal.returns
returns c L left follows =
    c.note_each.ensures
    ∙ ap (λ (all : List Fallen). with_each all c.note_moment_of.new.summaries) c.deref.ensures.value
    ∙ ap (λ (xs : List Summary). with_each c.args.seen.now.fallen.items xs) (c.in_ok-note_moment_of.ensures L left follows)
