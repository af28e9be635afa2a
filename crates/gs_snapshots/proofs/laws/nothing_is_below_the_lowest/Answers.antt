use Rattle.gs_snapshots.specs.Loads.{amount_of, loads}
use Rattle.gs_snapshots.specs.Summary.{score_in}
use Rattle.gs_snapshots.proofs.Lowest.{none_is_below, only_of_nothing}
use Rattle.gs_snapshots.proofs.laws.nothing_is_below_the_lowest.Goals as goal

pub returns-clause-scores : goal.returns-clause-scores
returns-clause-scores c = λ ss s is. none_is_below score_in ss s is

pub returns-clause-some_score : goal.returns-clause-some_score
returns-clause-some_score c = λ ss is. only_of_nothing score_in ss is

pub returns-clause-parts : goal.returns-clause-parts
returns-clause-parts c = λ params s x is. none_is_below amount_of (loads params s) x is
