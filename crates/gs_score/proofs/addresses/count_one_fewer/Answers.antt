use Rattle.std.proofs.Common.{◌≡◌, ℕ, ◌-◌, Option, ap, subst, ◌∙◌, refl}
use Rattle.std.specs.Option.{IsSome, unwrap_or}
use Rattle.gs_score.specs.Addresses.{kept_number}
use Rattle.gs_score.proofs.Numbering.{one_less}
use Rattle.gs_score.proofs.addresses.count_one_fewer.Goals as goal

pub returns-in-Some : goal.returns-in-Some
returns-in-Some c =
    let old = c.args.numbers.now.entries in
    let was : c.saturating_sub.result ≡ kept_number old c.args.address.now - 1
    = c.saturating_sub.ensures ∙ ap (λ (o : Option ℕ). unwrap_or o 0 - 1) c.in-Some.ensures.value in
    one_less old (c.get_mut.follows.lender c.saturating_sub.result).entries c.args.address.now
    (rw (← was) ((c.get_mut.follows.holds c.saturating_sub.result).3 (subst IsSome c.in-Some.ensures.value refl)).0)
