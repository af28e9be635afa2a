use Rattle.std.proofs.Common.{◌≡◌, ◌^◌, pos, lit<, ap, ap₂, refl, ◌∙◌}
use Rattle.gs_score.specs.Millionths.{times}
use Rattle.gs_score.specs.Standings.{held}
use Rattle.gs_score.specs.Formula.{topic_part, weighed, p1, p2, p3, p3b, p4}
use Rattle.gs_score.proofs.Bounds.{back, reward_back, penalty_back}
use Rattle.gs_score.proofs.standing.Standing.part.Goals as goal

pub returns-clause-value : goal.returns-clause-value
unfolding topic_part
returns-clause-value c =
    let r = c.args.rules.now in
    let f = c.requires.in_range.factors in
    let h = held r c.args.decays c.args.self.now in
    let e1 : c.weighed-present.result ≡ times r.factors.w1 (pos (p1 r c.args.now.0 h.since))
    = c.weighed-present.ensures.value ∙ ap₂ (λ w n. times w (pos n)) (reward_back r.factors.w1 f.w1) c.presence.ensures.value in
    let e2 : c.weighed_count-first.result ≡ times r.factors.w2 (pos (p2 h))
    = c.weighed_count-first.ensures.value ∙ ap (λ w. times w (pos (p2 h))) (reward_back r.factors.w2 f.w2) in
    let e3 : c.weighed_missing-missing.result ≡ times r.factors.w3 (pos (p3 r c.args.now.0 h))
    = c.weighed_missing-missing.ensures.value ∙ ap (λ w. times w (pos (p3 r c.args.now.0 h))) (penalty_back r.factors.w3 f.w3) in
    let e4 : c.weighed_count-deficit.result ≡ times r.factors.w3b (pos (p3b h))
    = c.weighed_count-deficit.ensures.value ∙ ap (λ w. times w (pos (p3b h))) (penalty_back r.factors.w3b f.w3b) in
    let e5 : c.weighed_square-invalid.result ≡ times r.factors.w4 (pos (p4 h))
    = c.weighed_square-invalid.ensures.value ∙ ap (λ w. times w (pos (p4 h))) (penalty_back r.factors.w4 f.w4) in
    let sum : c.sum_of_five-sum.result ≡ weighed r c.args.now.0 h
    = c.sum_of_five-sum.ensures.value
    ∙ rw (back _ (10 ^ 21) c.weighed-present.ensures.bound (lit< tt), back _ (10 ^ 21) c.weighed_count-first.ensures.bound (lit< tt), back _ (10 ^ 21) c.weighed_missing-missing.ensures.bound (lit< tt), back _ (10 ^ 21) c.weighed_count-deficit.ensures.bound (lit< tt), back _ (10 ^ 21) c.weighed_square-invalid.ensures.bound (lit< tt), e1, e2, e3, e4, e5) refl in
    back _ (10 ^ 25) c.weighed_sum.ensures.bound (lit< tt)
    ∙ c.weighed_sum.ensures.value
    ∙ ap₂ times (reward_back r.factors.topic_weight f.topic_weight) (back _ (10 ^ 22) c.sum_of_five-sum.ensures.bound (lit< tt) ∙ sum)
