use Rattle.std.proofs.Common.{ap, ◌∙◌}
use Rattle.std.proofs.lemmas.Result.{on_ok_weaker}
use Rattle.gs_seats.specs.Rounds.{peer_in}
use Rattle.gs_snapshots.specs.declared.snapshot.Snapshot.{Snapshot}
use Rattle.gs_snapshots.specs.Noting.{with_snapshot}
use Rattle.gs_snapshots.proofs.summaries.note_score.Goals as goal

pub returns : goal.returns
returns c =
    let plan = c.args.summed.plan.now in
    on_ok_weaker
    c.note_snapshot.result
    (λ noted L left follows.
    noted
    ∙ ap (λ (s : Snapshot). with_snapshot plan.params.thresholds s c.args.summary.now)
    (c.in_ok-snapshot.ensures (record { peer = peer_in plan c.args.summed.peer; before = L; left = left }) follows))
    c.note_snapshot.ensures
