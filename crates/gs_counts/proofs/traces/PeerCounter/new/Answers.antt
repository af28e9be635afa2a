use Rattle.std.proofs.Common.{refl}
use Rattle.gs_counts.proofs.traces.PeerCounter.new.Goals as goal

pub returns : goal.returns
returns c = record { known = c.in_ok-notes.ensures; watches = c.in_ok-watcher.ensures; last = refl }
