use Rattle.std.proofs.Common.{nat_eq, sym, ◌∙◌}
use Rattle.std.specs.Cmp.Lexicographic.{pointwise}
use Rattle.gs_scenario.proofs.Lists.{list_any_map}
use Rattle.gs_scenario.proofs.scenario.section.is_one_of.Goals as goal

pub returns : goal.returns
returns c = c.contains.ensures.value ∙ sym (list_any_map (λ known. pointwise nat_eq known c.args.name.now) (λ known. known.now) c.args.names.now)
