use Rattle.std.proofs.Common.{arith, refl}
use Rattle.gs_router.proofs.follower.Follower.new.Goals as goal

pub returns : goal.returns
returns c = record {
  watches = c.in_ok-watcher.ensures;
  before = refl;
  left = refl;
  within = omega arith;
  order = c.requires.order;
}
