use Rattle.std.specs.Prelude.{not}
use Rattle.std.proofs.Common.{refl}
use Rattle.std.proofs.lemmas.List.Filters.{length-filter_both}
use Rattle.gs_reach.specs.Reached.{is_reached}
use Rattle.gs_reach.proofs.laws.reached_and_missed_are_all.Goals as goal

pub returns : goal.returns
returns c = λ pairs. length-filter_both is_reached (λ x. not (is_reached x)) (λ _. refl) pairs
