use Rattle.std.proofs.Common.{Option, refl, sym, ap, subst, ◌∙◌}
use Rattle.std.specs.Option.{IsSome, unwrap_or}
use Rattle.gs_score.specs.declared.standing.Standing.{Standing}
use Rattle.gs_score.specs.Standings.{fresh, grafted}
use Rattle.gs_score.proofs.Kept.{kept_adds, kept_step, most_added}
use Rattle.gs_score.proofs.topic_standings.graft_at.Goals as goal

pub returns-in-Some-clause-puts : goal.returns-in-Some-clause-puts
returns-in-Some-clause-puts c =
    let old = c.args.standings.now.entries in
    let topic = c.args.topic.now in
    let is = c.graft.new.self in
    kept_step old (c.get_mut.follows.lender is).entries topic (grafted c.args.now) c.in-Some.place.now is
    (ap (λ (o : Option Standing). unwrap_or o fresh) (sym c.in-Some.ensures.value))
    c.graft.ensures
    (((c.get_mut.follows.holds is).3 (subst IsSome c.in-Some.ensures.value refl)).0)

pub returns-in_ok-insert-in-None-clause-puts : goal.returns-in_ok-insert-in-None-clause-puts
returns-in_ok-insert-in-None-clause-puts c = λ t.
    kept_step c.args.standings.now.entries c.insert.new.self.entries c.args.topic.now (grafted c.args.now) fresh c.graft-in-None.new.self
    (ap (λ (o : Option Standing). unwrap_or o fresh) (sym c.in-None.ensures.value))
    (c.graft-in-None.ensures ∙ ap (grafted c.args.now) c.new-member.ensures)
    (λ q. rw (← c.get_mut.follows.holds-at-none, ← c.in_ok-clone_of-in-None.ensures) (c.in_ok-insert-in-None.ensures.updates.0 q)) t

pub returns-in_ok-insert-in-None-clause-adds : goal.returns-in_ok-insert-in-None-clause-adds
returns-in_ok-insert-in-None-clause-adds c =
    kept_adds c.args.standings.now.entries c.insert.new.self.entries c.args.topic.now c.graft-in-None.new.self c.in_ok-insert-in-None.field-0
    (λ q. rw (← c.get_mut.follows.holds-at-none, ← c.in_ok-clone_of-in-None.ensures) (c.in_ok-insert-in-None.ensures.updates.0 q))
    (sym c.in-None.ensures.value)
    (rw (c.in_ok-insert-in-None.ensures.old, c.in_ok-clone_of-in-None.ensures, c.get_mut.follows.holds-at-none) (sym c.in-None.ensures.value))
    (rw (← c.get_mut.follows.holds-at-none) c.in_ok-insert-in-None.ensures.len)

pub returns-in_ok-insert-in-None-clause-number : goal.returns-in_ok-insert-in-None-clause-number
returns-in_ok-insert-in-None-clause-number c =
    most_added c.args.standings.now.entries c.insert.new.self.entries c.args.topic.now
    (kept_adds c.args.standings.now.entries c.insert.new.self.entries c.args.topic.now c.graft-in-None.new.self c.in_ok-insert-in-None.field-0
    (λ q. rw (← c.get_mut.follows.holds-at-none, ← c.in_ok-clone_of-in-None.ensures) (c.in_ok-insert-in-None.ensures.updates.0 q))
    (sym c.in-None.ensures.value)
    (rw (c.in_ok-insert-in-None.ensures.old, c.in_ok-clone_of-in-None.ensures, c.get_mut.follows.holds-at-none) (sym c.in-None.ensures.value))
    (rw (← c.get_mut.follows.holds-at-none) c.in_ok-insert-in-None.ensures.len))
