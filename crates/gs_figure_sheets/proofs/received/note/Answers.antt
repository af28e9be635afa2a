use Rattle.std.proofs.Common.{None, Some, ap, refl, subst, sym, ◌∙◌}
use Rattle.std.specs.Option.{IsSome}
use Rattle.gs_figure_sheets.specs.declared.received.Received.{Received}
use Rattle.gs_figure_sheets.specs.Received.{received_with}
use Rattle.gs_figure_sheets.proofs.Receiving.{one_received}
use Rattle.gs_figure_sheets.proofs.received.note.Goals as goal

pub returns-in-Some : goal.returns-in-Some
returns-in-Some c = λ p.
    let is = c.with.result in
    let updates = ((c.get_mut.follows.holds is).3 (subst IsSome c.in-Some.ensures.value refl)).0 p in
    one_received c.args.rows.now.entries (c.get_mut.follows.lender is).entries c.args.peer c.args.gift (Some c.in-Some.received.now) is p (sym c.in-Some.ensures.value) c.with.ensures updates

pub returns-in_ok-insert-in-None : goal.returns-in_ok-insert-in-None
returns-in_ok-insert-in-None c = λ p.
    let untouched = c.get_mut.follows.holds-at-none in
    let updates = rw untouched at (c.in_ok-insert-in-None.ensures.updates.0 p) in
    one_received c.args.rows.now.entries c.insert.new.self.entries c.args.peer c.args.gift None _ p (sym c.in-None.ensures.value) (c.with-in-None.ensures ∙ ap (λ (r : Received). received_with r c.args.gift) c.nothing.ensures) updates
