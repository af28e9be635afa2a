use Rattle.std.proofs.Common.{◌≡◌, ◌≤◌, ◌^◌, unsigned_abs, ap₂, subst, sym, ◌∙◌, lit<, refl}
use Rattle.std.specs.Int.{w64, w128}
use Rattle.std.proofs.lemmas.Int.{to_z-of_z}
use Rattle.gs_score.specs.Millionths.{times}
use Rattle.gs_score.proofs.Bounds.{times_within, abs_back}
use Rattle.gs_score.proofs.millionths.weighed_sum.Goals as goal

pub returns-clause-bound : goal.returns-clause-bound
returns-clause-bound c =
    let is : c.times.result ≡ times c.args.weight c.args.sum
    = c.times.ensures
    ∙ ap₂ times (to_z-of_z w64 c.args.weight c.ranges.weight) (to_z-of_z w128 c.args.sum c.ranges.sum) in
    abs_back c.times.result (10 ^ 25)
    (subst (λ z. unsigned_abs z ≤ 10 ^ 25) (sym is)
    (times_within c.args.weight c.args.sum (10 ^ 9) (10 ^ 22) (10 ^ 25) c.requires.weight c.requires.sum refl))
    (lit< tt)
