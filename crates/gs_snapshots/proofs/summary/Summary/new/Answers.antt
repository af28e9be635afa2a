use Rattle.std.proofs.Common.{None, pos}
use Rattle.gs_snapshots.proofs.summary.Summary.new.Goals as goal

pub returns : goal.returns
returns c = λ thresholds i. record {
  neighbour = c.args.neighbour;
  zero = c.new.ensures (pos 0) i;
  gossip = c.new-2.ensures thresholds.gossip_threshold i;
  publish = c.new-3.ensures thresholds.publish_threshold i;
  graylist = c.new-4.ensures thresholds.graylist_threshold i;
  lowest = None;
  falls = c.none.ensures i;
}
