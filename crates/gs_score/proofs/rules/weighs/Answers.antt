use Rattle.std.proofs.Common.{◌≡◌, of_z, arith}
use Rattle.std.specs.Int.{w64}
use Rattle.std.proofs.lemmas.Bool.Decides.{nat_tests}
use Rattle.gs_score.proofs.Bounds.{penalty_back, reward_back}
use Rattle.gs_score.proofs.NoWeight.{is_none, without_weight, without_weights}
use Rattle.gs_score.proofs.rules.weighs.Goals as goal

pub returns-then-factors-eq0 : goal.returns-then-factors-eq0
returns-then-factors-eq0 c = λ _ in_range.
    let f = c.args.factors.now in
    without_weight f (is_none f.topic_weight (reward_back f.topic_weight in_range.topic_weight) c.if-factors-eq0.true)

pub returns : goal.returns
returns c = λ _ in_range.
    let f = c.args.factors.now in
    let e1 : of_z w64 f.w1 ≡ 0 = grind (arith, nat_tests, c.if-factors-ne0.false) in
    let e2 : of_z w64 f.w2 ≡ 0 = grind (arith, nat_tests, c.if-factors-ne0-2.false) in
    let e3 : of_z w64 f.w3 ≡ 0 = grind (arith, nat_tests, c.if-factors-ne0-3.false) in
    let e3b : of_z w64 f.w3b ≡ 0 = grind (arith, nat_tests, c.if-factors-ne0-4.false) in
    let e4 : of_z w64 f.w4 ≡ 0 = grind (arith, nat_tests, c.if-factors-ne0-5.false) in
    without_weights f
    (is_none f.w1 (reward_back f.w1 in_range.w1) e1)
    (is_none f.w2 (reward_back f.w2 in_range.w2) e2)
    (is_none f.w3 (penalty_back f.w3 in_range.w3) e3)
    (is_none f.w3b (penalty_back f.w3b in_range.w3b) e3b)
    (is_none f.w4 (penalty_back f.w4 in_range.w4) e4)
