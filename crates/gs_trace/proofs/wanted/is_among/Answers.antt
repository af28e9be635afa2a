use Rattle.std.proofs.Common.{arith, rules}
use Rattle.gs_rules.specs.Rules.{same_bytes}
use Rattle.std.proofs.lemmas.Iterator.Search.{any_from_yields_List}
use Rattle.std.proofs.lemmas.Iterator.Splits.{YieldsList-from_str_split}
use Rattle.gs_trace.proofs.wanted.is_among.Goals as goal

pub returns : goal.returns
returns c =
    any_from_yields_List (λ one. same_bytes one c.args.word.now) _ _ c.any.result c.any.ensures.ran
    (YieldsList-from_str_split 44 c.args.words.now (omega arith) c.split.ensures.text c.split.ensures.has_more c.split.ensures.pattern)
    (λ x b q h. search rules)
