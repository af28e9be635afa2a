use Rattle.gs_counts.proofs.GoingOn.{nothing_seen}
use Rattle.gs_counts.proofs.counting.Counting.new.Goals as goal

pub returns : goal.returns
returns c = record { counters = c.in_ok-counters.ensures; shows = nothing_seen c.args.plan.now c.args.of.now _ c.in_ok-tables.ensures }
