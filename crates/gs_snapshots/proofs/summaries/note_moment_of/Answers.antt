use Rattle.std.proofs.Common.{◌∷◌, List, sym, ap, ◌∙◌}
use Rattle.std.proofs.lemmas.Result.{on_ok_weaker}
use Rattle.gs_rules.specs.Tables.{Entries}
use Rattle.gs_snapshots.specs.declared.moments.Moment.{Moment}
use Rattle.gs_snapshots.specs.Moments.{occasion_of}
use Rattle.gs_snapshots.specs.Summing.{with_moments}
use Rattle.gs_snapshots.proofs.Fronts.{moment_given}
use Rattle.gs_snapshots.proofs.summaries.note_moment_of.Goals as goal

pub returns-in-Some : goal.returns-in-Some
returns-in-Some c =
    let x = c.args.summed in
    let e = c.args.seen.now.entry.now in
    let given = λ (L : Entries). moment_given x.plan.now x.peer e L (occasion_of e.event) c.in-Some.moment (sym c.moment_of.ensures ∙ c.in-Some.is) in
    on_ok_weaker
    c.note_moment.result
    (λ noted L left follows.
    noted (e ∷ L) left follows ∙ ap (λ (ms : List (Moment × Entries)). with_moments x ms c.args.summaries.now) (sym (given L).0))
    c.note_moment.ensures
