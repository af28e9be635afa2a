use Rattle.std.proofs.Common.{arith, rules}
use Rattle.std.proofs.lemmas.Iterator.Search.{any_from_yields_List}
use Rattle.std.proofs.lemmas.Iterator.Splits.{YieldsList-from_str_split}
use Rattle.gs_figure_sheets.specs.Choices.{fits}
use Rattle.gs_figure_sheets.proofs.choice.is_named.Goals as goal

pub returns : goal.returns
returns c =
    any_from_yields_List (λ word. fits word c.args.name.now) _ _ c.any.result c.any.ensures.ran
    (YieldsList-from_str_split 44 c.args.words.now (omega arith) c.split.ensures.text c.split.ensures.has_more c.split.ensures.pattern)
    (λ x b q h. search rules)
