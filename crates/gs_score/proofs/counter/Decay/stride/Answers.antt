use Rattle.std.proofs.Common.{◌≡◌, ◌≤◌, ◌<◌, ◌*◌, ◌-◌, ◌+◌, sym, subst, ◌∙◌, arith}
use Rattle.gs_score.specs.Counters.{decay_step, decayed}
use Rattle.gs_score.specs.Millionths.{scaled}
use Rattle.gs_score.proofs.Decaying.{decayed-alike}
use Rattle.gs_score.proofs.counter.Decay.stride.Goals as goal

pub returns-clause-value : goal.returns-clause-value
returns-clause-value c =
    let d = c.args.self in
    let x = c.args.value in
    let fall = x - c.args.next in
    let n = c.min-steps.result in
    let taken = c.saturating_mul-taken.result in
    let is : taken ≡ n * fall = omega (arith, c.saturating_mul-taken.ensures, c.if-value-taken.false, c.requires.value) in
    let some : 0 < n = omega (arith, c.min-steps.ensures, c.even_steps.ensures, c.requires.most) in
    let next : decay_step d x ≡ x - fall = sym c.requires.next ∙ omega (arith, c.requires.falls) in
    let last : scaled d.factor (x - taken + fall) ≡ x - taken = sym c.scaled.ensures.value ∙ c.if-scaled-rest.false in
    subst (λ t. decayed d n x ≡ x - t) (sym is)
    (decayed-alike d x fall n c.requires.factor some (subst (λ t. t ≤ x) is c.if-value-taken.false)
    (subst (λ m. 0 < m) c.requires.next c.requires.some) next
    (subst (λ t. d.floor ≤ x - t) is c.if-rest-self.false)
    (subst (λ t. scaled d.factor (x - t + fall) ≡ x - t) is last))
