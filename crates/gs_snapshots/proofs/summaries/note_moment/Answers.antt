use Rattle.std.proofs.Common.{◌≡◌, ◌++◌, set, sym, ap, ◌∙◌}
use Rattle.gs_snapshots.specs.Summing.{with_moment}
use Rattle.gs_snapshots.proofs.Mapped.{mapped_all, mapped_more}
use Rattle.gs_snapshots.proofs.summaries.note_moment.Goals as goal

pub loop-summary-preserved : goal.loop-summary-preserved
loop-summary-preserved c L left follows =
    let n = c.loop-summary.summary-index in
    ap (set c.loop-summary.summaries n) (c.in_ok-note_score.ensures L left follows)
    ∙ mapped_more (with_moment c.args.summed.plan.now c.args.summed.peer (c.args.moment, L)) c.args.summaries.now c.loop-summary.summaries n c.summary-item.result c.loop-summary-test.true
    (c.loop-summary.invariant L left follows)

pub returns : goal.returns
returns c L left follows =
    mapped_all (with_moment c.args.summed.plan.now c.args.summed.peer (c.args.moment, L)) c.args.summaries.now c.loop-summary.summaries c.loop-summary.summary-index c.loop-summary-test.false
    (c.loop-summary.invariant L left follows)
