use Rattle.std.proofs.Common.{◌∷◌, [], arith, length-append}
use Rattle.gs_workers.specs.Groups.{AllEnd}
use Rattle.gs_workers.proofs.Dealing.{joins_one}
use Rattle.gs_workers.proofs.workers.join_all.Goals as goal

pub loop-worker-preserved : goal.loop-worker-preserved
loop-worker-preserved g c = (
  tt,
  tt,
  omega (arith, length-append c.loop-worker.yielded (c.in-Some.worker ∷ []), c.loop-worker.invariant.2, c.in_ok-push_back.ensures.len),
  joins_one (AllEnd g.F.Future.gives) (λ worker. worker.promise.0.value.items) c.loop-worker.yielded c.in-Some.worker c.loop-worker.groups.items c.push_back.new.self.items c.in_ok-group.group
      c.in_ok-push_back.ensures.items c.loop-worker.invariant.3 c.in_ok-group.ensures,
)
