use Rattle.std.proofs.Common.{◌≡◌, ◌≤◌, ◌^◌, pos, unsigned_abs, ap₂, subst, sym, ◌∙◌, lit<, refl, arith}
use Rattle.std.specs.Int.{w64}
use Rattle.std.proofs.lemmas.Int.{ints, to_z-of_z}
use Rattle.gs_score.specs.Millionths.{times}
use Rattle.gs_score.proofs.Bounds.{times_within, abs_back}
use Rattle.gs_score.proofs.millionths.weighed.Goals as goal

pub returns-clause-bound : goal.returns-clause-bound
returns-clause-bound c =
    let is : c.times.result ≡ times c.args.weight (pos c.args.amount)
    = c.times.ensures ∙ ap₂ times (to_z-of_z w64 c.args.weight c.ranges.weight) (omega (arith, ints)) in
    abs_back c.times.result (10 ^ 21)
    (subst (λ z. unsigned_abs z ≤ 10 ^ 21) (sym is)
    (times_within c.args.weight (pos c.args.amount) (10 ^ 9) (10 ^ 18) (10 ^ 21) c.requires.weight c.requires.amount refl))
    (lit< tt)
