use Rattle.std.proofs.Common.{◌∙◌, Bool, ap, if◌then◌else◌}
use Rattle.gs_base.specs.Names.{same_peer}
use Rattle.gs_router.specs.declared.tables.listeners.Listeners.{Listeners}
use Rattle.gs_router.proofs.Noting.{speaks_first}
use Rattle.gs_router.proofs.tables.listeners.Listeners.put.Goals as goal

pub returns-in_ok-insert-in-None : goal.returns-in_ok-insert-in-None
returns-in_ok-insert-in-None c = λ q t.
    let untouched = c.get_mut.follows.holds-at-none in
    let updates = rw untouched at (c.in_ok-insert-in-None.ensures.updates.0 t) in
    let flags = c.in_ok-put-in-None.ensures q ∙ ap (λ (was : Bool). if same_peer c.args.peer q then c.args.is_on else was) (c.new-set.ensures q) in
    let new : Listeners = record { alloc = c.args.self.now.alloc; topics = c.insert.new.self } in
    speaks_first c.args.self.now new c.args.topic t c.args.peer q c.args.is_on c.put-in-None.new.self c.in-None.ensures.value updates flags
