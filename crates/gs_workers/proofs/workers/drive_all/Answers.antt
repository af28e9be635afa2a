use Rattle.std.proofs.Common.{map}
use Rattle.std.proofs.lemmas.Result.{err_from_is_err_and}
use Rattle.gs_workers.specs.Deals.{lists_of}
use Rattle.gs_workers.proofs.Running.{dealt_ends, dealt_live}
use Rattle.gs_workers.proofs.workers.drive_all.Goals as goal

pub start_all-requires-clause-live : goal.start_all-requires-clause-live
start_all-requires-clause-live g c κs within =
    dealt_live g.F.Future.can_poll c.args.futures.items (lists_of c.in_ok-groups.groups.items) c.in_ok-groups.ensures.dealt c.requires.ready

pub returns-clause-dealt : goal.returns-clause-dealt
returns-clause-dealt g c =
    dealt_ends g.F.Future.gives c.args.futures.items (lists_of c.in_ok-groups.groups.items) (map (λ worker. worker.promise.0.value.items) c.in_ok-started.started.items) (lists_of c.in_ok-ended.ended.items)
    c.in_ok-groups.ensures.dealt c.in_ok-started.ensures.each c.in_ok-ended.ensures.each

pub returns-in_err-ended-clause-want : goal.returns-in_err-ended-clause-want
returns-in_err-ended-clause-want g c =
    let p = err_from_is_err_and c.from_residual-in_err-ended.result c.from_residual-in_err-ended.ensures.1 in
    rw (p.1, p.2) (c.in_err-ended.ensures.want c.args.stop.now c.in_ok-started.ensures.flags)
