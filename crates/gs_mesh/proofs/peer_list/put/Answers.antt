use Rattle.std.proofs.Common.{sym}
use Rattle.gs_mesh.proofs.Placing.{ascending_with, found_is_there, placed, put_at_place}
use Rattle.gs_mesh.proofs.peer_list.put.Goals as goal

pub returns-in-Ok-clause-joins : goal.returns-in-Ok-clause-joins
returns-in-Ok-clause-joins c =
    rw (sym c.deref.ensures.value) (found_is_there c.deref.result.now c.args.peer c.in-Ok.field-0 (rw c.deref.ensures.value c.requires) c.in-Ok.ensures.bound c.in-Ok.ensures.ok)

pub returns-in_ok-insert-in-Err-clause-joins : goal.returns-in_ok-insert-in-Err-clause-joins
returns-in_ok-insert-in-Err-clause-joins c =
    rw (c.in_ok-insert-in-Err.ensures.items, sym c.deref.ensures.value)
    (put_at_place c.deref.result.now c.args.peer c.in-Err.place c.in-Err.ensures.bound
    (placed c.deref.result.now c.args.peer c.in-Err.place (rw c.deref.ensures.value c.requires) c.in-Err.ensures.position))

pub returns-in_ok-insert-in-Err-clause-ascending : goal.returns-in_ok-insert-in-Err-clause-ascending
returns-in_ok-insert-in-Err-clause-ascending c =
    rw (c.in_ok-insert-in-Err.ensures.items, sym c.deref.ensures.value)
    (ascending_with c.deref.result.now c.args.peer c.in-Err.place c.in-Err.ensures.bound (rw c.deref.ensures.value c.requires)
    (placed c.deref.result.now c.args.peer c.in-Err.place (rw c.deref.ensures.value c.requires) c.in-Err.ensures.position))
