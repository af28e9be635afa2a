use Rattle.std.proofs.Common.{◌≡◌, ◌++◌, set, sym, ap, ◌∙◌}
use Rattle.gs_snapshots.specs.Noting.{with_fallen}
use Rattle.gs_snapshots.proofs.Mapped.{mapped_more}
use Rattle.gs_snapshots.proofs.summaries.note_fallen.Goals as goal

pub loop-summary-preserved : goal.loop-summary-preserved
loop-summary-preserved c =
    let n = c.loop-summary.summary-index in
    ap (set c.loop-summary.summaries n) c.note_fallen.ensures
    ∙ mapped_more (with_fallen c.args.fallen.now) c.args.summaries.now c.loop-summary.summaries n c.summary-item.result c.loop-summary-test.true c.loop-summary.invariant
