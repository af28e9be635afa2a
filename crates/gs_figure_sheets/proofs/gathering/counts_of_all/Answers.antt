use Rattle.gs_reach.specs.declared.chosen.Chosen.TheVariants.{Any}
use Rattle.gs_figure_sheets.proofs.Gathered.{counted_all, counts_if}
use Rattle.gs_figure_sheets.proofs.gathering.counts_of_all.Goals as goal

pub counts-requires-clause-counted : goal.counts-requires-clause-counted
counts-requires-clause-counted c =
    let (among, traces, h) = c.requires.counted in
    (Any, traces, counted_all c.args.plan.now among c.args.all c.in-Some.counting traces c.in-Some.is h)

pub returns-in_ok-counts-in-Some : goal.returns-in_ok-counts-in-Some
returns-in_ok-counts-in-Some c = λ among traces report all are leaves.
    counts_if c.args.plan.now report among c.args.all c.in-Some.counting traces c.in_ok-counts-in-Some.counts c.in-Some.is all (λ counted. c.in_ok-counts-in-Some.ensures Any traces report counted are leaves)
