use Rattle.std.proofs.Common.{Option, refl, length, sym, ap, is_some, subst, ◌∙◌}
use Rattle.std.specs.Option.{IsSome, unwrap_or}
use Rattle.std.proofs.lemmas.Map.{length-set_value}
use Rattle.gs_base.specs.Names.{same_topic}
use Rattle.gs_score.specs.declared.standing.Standing.{Standing}
use Rattle.gs_score.specs.Accounts.{standing_in}
use Rattle.gs_score.specs.Standings.{fresh, pruned}
use Rattle.gs_score.proofs.Kept.{absent_pruned, absent_put, kept_keeps, kept_step}
use Rattle.gs_score.proofs.topic_standings.prune_at.Goals as goal

pub returns-in-Some-clause-prunes : goal.returns-in-Some-clause-prunes
returns-in-Some-clause-prunes c =
    let old = c.args.standings.now.entries in
    let topic = c.args.topic.now in
    let is = c.prune.new.self in
    kept_step old (c.get_mut.follows.lender is).entries topic pruned c.in-Some.place.now is
    (ap (λ (o : Option Standing). unwrap_or o fresh) (sym c.in-Some.ensures.value))
    c.prune.ensures
    (((c.get_mut.follows.holds is).3 (subst IsSome c.in-Some.ensures.value refl)).0)

pub returns-in-Some-clause-keeps : goal.returns-in-Some-clause-keeps
returns-in-Some-clause-keeps c =
    let old = c.args.standings.now.entries in
    let topic = c.args.topic.now in
    let is = c.prune.new.self in
    kept_keeps old (c.get_mut.follows.lender is).entries topic is c.in-Some.place.now
    (((c.get_mut.follows.holds is).3 (subst IsSome c.in-Some.ensures.value refl)).0)
    (sym c.in-Some.ensures.value)
    (ap length (c.get_mut.follows.holds is).0 ∙ length-set_value (same_topic topic) old is)

pub returns-in-None-clause-prunes : goal.returns-in-None-clause-prunes
returns-in-None-clause-prunes c =
    let old = c.args.standings.now.entries in
    let topic = c.args.topic.now in
    rw c.get_mut.follows.holds-at-none
    (absent_put old topic (pruned (standing_in old topic)) (sym c.in-None.ensures.value)
    (absent_pruned old topic (ap is_some (sym c.in-None.ensures.value))))
