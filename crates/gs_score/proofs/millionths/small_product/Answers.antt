use Rattle.std.proofs.Common.{rules, ◌≡◌, ◌*ℤ◌, pos, ap, ◌∙◌}
use Rattle.std.specs.Int.{w128, int_div_euclid}
use Rattle.std.proofs.lemmas.Int.{to_z-of_z}
use Rattle.gs_score.specs.Millionths.{times}
use Rattle.gs_score.proofs.millionths.small_product.Goals as goal

pub returns : goal.returns
unfolding times
returns c =
    let quotient : c.from.result ≡ int_div_euclid c.in_ok-product.product (pos 1_000_000) = search rules in
    let product : c.in_ok-product.product ≡ c.args.weight *ℤ c.in-Ok.small = search rules in
    let small : c.in-Ok.small ≡ c.args.amount = search rules in
    to_z-of_z w128 c.from.result (record { sfits = c.from.type_inv }) ∙ quotient
    ∙ ap (λ x. int_div_euclid x (pos 1_000_000)) (product ∙ ap (λ x. c.args.weight *ℤ x) small)
