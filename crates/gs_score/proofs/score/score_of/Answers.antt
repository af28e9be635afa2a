use Rattle.std.proofs.Common.{◌≡◌, ◌^◌, lit<, ap, refl, ◌∙◌}
use Rattle.gs_score.specs.Millionths.{times}
use Rattle.gs_score.specs.Formula.{score_of, capped, p5}
use Rattle.gs_score.proofs.Bounds.{back}
use Rattle.gs_score.proofs.score.score_of.Goals as goal

pub returns-clause-value : goal.returns-clause-value
unfolding score_of
returns-clause-value c =
    let f = c.args.factors.now in
    let e0 : c.capped-held.result ≡ capped f.topic_cap c.args.topics
    = c.capped-held.ensures.value ∙ ap (capped f.topic_cap) (back c.args.topics (10 ^ 29) c.requires.topics (lit< tt)) in
    let e1 : c.weighed_app-given.result ≡ times f.w5 (p5 c.args.app)
    = c.weighed_app-given.ensures.value ∙ ap (times f.w5) (back c.args.app (10 ^ 12) c.requires.app (lit< tt)) in
    back _ (10 ^ 30) c.sum_of_four.ensures.bound (lit< tt)
    ∙ c.sum_of_four.ensures.value
    ∙ rw (back _ (10 ^ 29) c.capped-held.ensures.bound (lit< tt), back _ (10 ^ 25) c.weighed_app-given.ensures.bound (lit< tt), back _ (10 ^ 21) c.weighed_crowd-crowded.ensures.bound (lit< tt), back _ (10 ^ 21) c.weighed_misbehaviour-misbehaved.ensures.bound (lit< tt), e0, e1, c.weighed_crowd-crowded.ensures.value, c.weighed_misbehaviour-misbehaved.ensures.value) refl
