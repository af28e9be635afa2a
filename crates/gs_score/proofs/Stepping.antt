-- A step of decay, over all counters of a standing.
use Rattle.std.proofs.Common.{◌≡◌, ℕ, ◌+◌, refl}
use Rattle.gs_score.specs.declared.rules.TopicRules.{TopicRules}
use Rattle.gs_score.specs.declared.standing.Kind.TheVariants.{First, Near, Deficit, Invalid}
use Rattle.gs_score.specs.declared.standing.Standing.{Standing}
use Rattle.gs_score.specs.Ranges.{IsUpTo}
use Rattle.gs_score.specs.Standings.{held, decayed_held, decay_of}
use Rattle.gs_score.proofs.Decaying.{read-later}

pub held-later : (r : TopicRules) (decays : ℕ) (s : Standing) → IsUpTo decays s → held r (decays + 1) s ≡ decayed_held r (held r decays s)
held-later r decays s past =
    rw (read-later (decay_of r First) s.first decays 1 (past First), read-later (decay_of r Near) s.near decays 1 (past Near), read-later (decay_of r Deficit) s.deficit decays 1 (past Deficit), read-later (decay_of r Invalid) s.invalid decays 1 (past Invalid))
    refl
