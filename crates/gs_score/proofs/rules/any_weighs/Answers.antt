use Rattle.std.proofs.Common.{drop, sym, subst}
use Rattle.std.specs.List.{AllByRecursion}
use Rattle.std.proofs.lemmas.List.{drop_all, drop_more}
use Rattle.gs_base.specs.declared.names.Topic.{Topic}
use Rattle.gs_params.specs.declared.topic_params.TopicParams.{TopicParams}
use Rattle.gs_score.proofs.NoWeight.{IsWeightless, none_gives}
use Rattle.gs_score.proofs.rules.any_weighs.Goals as goal

abbrev Weightless : Topic × TopicParams → Type 0
Weightless x = IsWeightless x.1.factors

pub loop-entry-preserved : goal.loop-entry-preserved
loop-entry-preserved c = λ rest.
    let x = c.entry-item.result in
    let here : Weightless x = c.weighs.ensures c.if-weighs.false in
    c.loop-entry.invariant (
    subst (AllByRecursion Weightless) (sym (drop_more c.args.topics.now c.loop-entry.entry-index x c.loop-entry-test.true))
    (subst Weightless c.entry-item.is here, rest)
    )

pub returns : goal.returns
returns c = λ _ params in_range same t now h.
    let none : AllByRecursion Weightless (drop c.loop-entry.entry-index c.args.topics.now)
    = subst (AllByRecursion Weightless) (sym (drop_all c.loop-entry.entry-index c.args.topics.now c.loop-entry-test.false)) tt in
    none_gives params in_range (subst (AllByRecursion Weightless) (sym same) (c.loop-entry.invariant none)) t now h
