use Rattle.std.proofs.Common.{◌≡◌, Option, sym, ap, subst, ◌∙◌}
use Rattle.std.specs.Option.{unwrap_or}
use Rattle.gs_score.specs.declared.rules.TopicRules.{TopicRules}
use Rattle.gs_score.specs.Accounts.{rules_of}
use Rattle.gs_score.specs.Ranges.{RulesAreInRange}
use Rattle.gs_score.proofs.RulesInRange.{rules_in_range}
use Rattle.gs_score.proofs.rulebook.Rulebook.of.Goals as goal

pub returns-in-Some-clause-in_range : goal.returns-in-Some-clause-in_range
returns-in-Some-clause-in_range c =
    let book = c.self.inside in
    let is : c.in-Some.rules.now ≡ rules_of book.params c.args.topic.now
    = ap (λ (o : Option TopicRules). unwrap_or o book.others) c.in-Some.ensures ∙ c.self.invariant.rules c.args.topic.now in
    subst RulesAreInRange (sym is) (rules_in_range book.params c.self.invariant.in_range c.args.topic.now)

pub returns-in-None-clause-in_range : goal.returns-in-None-clause-in_range
returns-in-None-clause-in_range c =
    let book = c.self.inside in
    let is : book.others ≡ rules_of book.params c.args.topic.now
    = ap (λ (o : Option TopicRules). unwrap_or o book.others) c.in-None.ensures ∙ c.self.invariant.rules c.args.topic.now in
    subst RulesAreInRange (sym is) (rules_in_range book.params c.self.invariant.in_range c.args.topic.now)
