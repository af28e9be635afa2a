use Rattle.gs_seats.proofs.Within.{params_in_range}
use Rattle.gs_snapshots.proofs.summary_writer.push_peer.Goals as goal

pub new-requires : goal.new-requires
new-requires c = params_in_range c.args.plan.now c.requires.range
