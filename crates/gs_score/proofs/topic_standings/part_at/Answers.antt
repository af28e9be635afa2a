use Rattle.std.proofs.Common.{◌≡◌, ap, ◌∙◌, Option, lit<, ◌^◌, refl}
use Rattle.std.specs.Option.{unwrap_or}
use Rattle.gs_score.specs.declared.standing.Standing.{Standing}
use Rattle.gs_score.specs.Standings.{fresh}
use Rattle.gs_score.specs.Formula.{topic_part}
use Rattle.gs_score.specs.Accounts.{held_in, rules_of, standing_in}
use Rattle.gs_score.proofs.Bounds.{back, coded}
use Rattle.gs_score.proofs.Sums.{drop_first}
use Rattle.gs_score.proofs.topic_standings.part_at.Goals as goal

pub returns-in-Some-clause-part : goal.returns-in-Some-clause-part
returns-in-Some-clause-part c =
    let params = c.args.rulebook.now in
    let es = c.args.standings.now.entries in
    let topic = c.in-Some.topic.now in
    let is : standing_in es topic ≡ c.in-Some.standing.now = ap (λ (o : Option Standing). unwrap_or o fresh) c.in-Some.ensures.value in
    let part : coded c.part.result ≡ topic_part (rules_of params topic) c.args.now.0 (held_in params c.args.decays es topic)
    = back c.part.result (10 ^ 25) c.part.ensures.bound (lit< tt) ∙ c.part.ensures.value ∙ rw (c.of.ensures.value, is) refl in
    rw (drop_first es c.args.place (topic, c.in-Some.standing.now) c.in-Some.ensures.entry, part) refl
