use Rattle.std.proofs.Common.{ℤ, ap}
use Rattle.gs_score.specs.Addresses.{app_of, number_with}
use Rattle.gs_score.specs.Formula.{score_of}
use Rattle.gs_score.specs.Histories.{addresses_in, misbehaviour}
use Rattle.gs_rules.specs.Scored.{parts_of_score, topics_of_neighbour}
use Rattle.gs_rules.specs.Scoring.{history, score}
use Rattle.gs_snapshots.proofs.Adding.{ascending_sum, shown_sum}
use Rattle.gs_snapshots.proofs.laws.a_snapshot_adds_up.Goals as goal

pub returns-clause-sum : goal.returns-clause-sum
unfolding parts_of_score
returns-clause-sum c = λ p m q. shown_sum p m.1 m.0.at.0 q (topics_of_neighbour p m.1 q)

pub returns-clause-decides : goal.returns-clause-decides
unfolding parts_of_score score
returns-clause-decides c = λ p m q.
    let H = history p m.1 in
    ap (λ (x : ℤ). score_of p.params.factors x (app_of (addresses_in p.neighbours H) q) (number_with (addresses_in p.neighbours H) q) (misbehaviour p.params H q))
    (ascending_sum p.params m.0.at.0 H q)
