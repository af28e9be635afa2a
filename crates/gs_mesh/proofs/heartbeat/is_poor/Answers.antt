use Rattle.std.proofs.Common.{◌≡◌, ◌%◌, ◌∙◌, pos, true, nat_eq, refl, ap, rules, FitsSigned}
use Rattle.std.specs.Int.{w128}
use Rattle.std.proofs.lemmas.Int.{to_z-of_z}
use Rattle.gs_mesh.specs.MeshSteps.{median_is_below}
use Rattle.gs_mesh.proofs.heartbeat.is_poor.Goals as goal

pub returns-then-number-params-eq0 : goal.returns-then-number-params-eq0
returns-then-number-params-eq0 c =
    let threshold : c.from-threshold.result ≡ pos c.args.params.now.thresholds.opportunistic_threshold = search rules in
    let fits : FitsSigned w128 c.from-threshold.result = record { sfits = c.from-threshold.type_inv } in
    let due : nat_eq (c.args.number % c.args.params.now.timing.opportunistic_ticks) 0 ≡ true = search rules in
    c.median_is_below.ensures ∙ ap (median_is_below c.args.members.now) (to_z-of_z w128 c.from-threshold.result fits ∙ threshold) ∙ rw due refl
