use Rattle.std.specs.Prelude.{not}
use Rattle.std.proofs.Common.{refl}
use Rattle.std.proofs.lemmas.List.Filters.{length-filter_both}
use Rattle.gs_reach.specs.Chosen.{is_by}
use Rattle.gs_reach.proofs.laws.all_messages_are_by_a_group_or_by_others.Goals as goal

pub returns : goal.returns
returns c = λ group list. length-filter_both (is_by group) (λ m. not (is_by group m)) (λ _. refl) list
