use Rattle.std.proofs.Common.{◌++◌, ap, ◌∙◌}
use Rattle.gs_params.specs.declared.params.Params.{Params}
use Rattle.gs_trace.proofs.Appended.{and_then, last}
use Rattle.gs_snapshots.specs.SummaryText.{bounds_lines}
use Rattle.gs_snapshots.proofs.summary_lines.push_lines.Goals as goal

pub returns : goal.returns
returns c =
    let out = c.args.out.now.items in
    last out _ _ _ _ (and_then out _ _
    (c.in_ok-push_bounds.ensures ∙ ap (λ (params : Params). out ++ bounds_lines params.thresholds c.args.summary.now) c.params.ensures.value)
    c.in_ok-push_lowest_of.ensures)
    c.push_falls.ensures
