-- A counter that was raised after a number of decays has that value then, and the others stay.
use Rattle.std.proofs.Common.{◌≡◌, ℕ, ◌-◌, refl, ap, arith}
use Rattle.gs_score.specs.Counters.{read_at, raised}
use Rattle.gs_score.specs.declared.counter.Decay.{Decay}
use Rattle.gs_score.specs.declared.rules.TopicRules.{TopicRules}
use Rattle.gs_score.specs.declared.standing.Kind.{Kind}
use Rattle.gs_score.specs.declared.standing.Kind.TheVariants.{First, Near, Deficit, Invalid}
use Rattle.gs_score.specs.declared.standing.Standing.{Standing}
use Rattle.gs_score.specs.Standings.{held, read, decay_of, cap_of, raised_held, raised_standing}

-- no step is missing at that number itself
pub read-now : (d : Decay) (decays x : ℕ) → read_at d decays (record { value = x; decays = decays }) ≡ x
read-now d decays x = let none : decays - decays ≡ 0 = omega arith in rw none refl

pub held-raised : (r : TopicRules) (kind : Kind) (by decays : ℕ) (s : Standing) → held r decays (raised_standing r kind by decays s) ≡ raised_held r kind by (held r decays s)
held-raised r First by decays s = ap (λ (x : ℕ). record (held r decays s) { first = x }) (read-now (decay_of r First) decays (raised (cap_of r First) by (read r decays s First)))
held-raised r Near by decays s = ap (λ (x : ℕ). record (held r decays s) { near = x }) (read-now (decay_of r Near) decays (raised (cap_of r Near) by (read r decays s Near)))
held-raised r Deficit by decays s = ap (λ (x : ℕ). record (held r decays s) { deficit = x }) (read-now (decay_of r Deficit) decays (raised (cap_of r Deficit) by (read r decays s Deficit)))
held-raised r Invalid by decays s = ap (λ (x : ℕ). record (held r decays s) { invalid = x }) (read-now (decay_of r Invalid) decays (raised (cap_of r Invalid) by (read r decays s Invalid)))
