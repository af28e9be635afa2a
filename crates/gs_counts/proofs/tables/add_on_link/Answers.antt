use Rattle.std.proofs.Common.{None, Some, refl, subst, sym}
use Rattle.std.specs.Option.{IsSome}
use Rattle.gs_counts.proofs.Linked.{added_over}
use Rattle.gs_counts.proofs.tables.add_on_link.Goals as goal

pub returns-in-Some : goal.returns-in-Some
returns-in-Some c = λ p q.
    let is = c.add.new.self in
    let updates = ((c.get_mut.follows.holds is).3 (subst IsSome c.in-Some.ensures.value refl)).0 (p, q) in
    added_over c.args.rows.now.entries (c.get_mut.follows.lender is).entries c.args.link c.args.kind c.args.amount (Some c.in-Some.row.now) is p q (sym c.in-Some.ensures.value) c.add.ensures updates

pub returns-in_ok-insert-in-None : goal.returns-in_ok-insert-in-None
returns-in_ok-insert-in-None c = λ p q.
    let untouched = c.get_mut.follows.holds-at-none in
    let updates = rw untouched at (c.in_ok-insert-in-None.ensures.updates.0 (p, q)) in
    added_over c.args.rows.now.entries c.insert.new.self.entries c.args.link c.args.kind c.args.amount None _ p q (sym c.in-None.ensures.value) c.first_row.ensures updates
