use Rattle.std.proofs.Common.{◌*◌, ◌^◌, ◌≤◌, ◌+ℤ◌, unsigned_abs, ap, ◌∙◌, lit<, arith, sym, subst}
use Rattle.gs_score.proofs.Bounds.{sum_of_four_back, fits, back, abs_back, coded}
use Rattle.gs_score.proofs.millionths.sum_of_four.Goals as goal

pub overflow_add-result-3 : goal.overflow_add-result-3
overflow_add-result-3 c =
    let s = sum_of_four_back c.args.a c.args.b c.args.c c.args.d (10 ^ 29) c.requires.a c.requires.b c.requires.c c.requires.d (lit< tt) in
    fits _ (4 * 10 ^ 29) (rw s.0 s.1) (lit< tt)

pub returns-clause-value : goal.returns-clause-value
returns-clause-value c =
    let s = sum_of_four_back c.args.a c.args.b c.args.c c.args.d (10 ^ 29) c.requires.a c.requires.b c.requires.c c.requires.d (lit< tt) in
    ap coded s.0 ∙ back _ (4 * 10 ^ 29) s.1 (lit< tt)

pub returns-clause-bound : goal.returns-clause-bound
returns-clause-bound c =
    let s = sum_of_four_back c.args.a c.args.b c.args.c c.args.d (10 ^ 29) c.requires.a c.requires.b c.requires.c c.requires.d (lit< tt) in
    let total = c.args.a +ℤ c.args.b +ℤ c.args.c +ℤ c.args.d in
    let small : unsigned_abs total ≤ 10 ^ 30 = omega (arith, s.1) in
    subst (λ z. unsigned_abs (coded z) ≤ 10 ^ 30) (sym s.0) (abs_back total (10 ^ 30) small (lit< tt))
