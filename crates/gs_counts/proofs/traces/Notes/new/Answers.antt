use Rattle.std.proofs.Common.{refl}
use Rattle.gs_counts.proofs.traces.Notes.new.Goals as goal

pub returns : goal.returns
returns c = record { peer = refl; memory = c.new.ensures; lanes = c.in_ok-lanes.ensures }
