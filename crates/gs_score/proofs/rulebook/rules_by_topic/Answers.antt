use Rattle.std.proofs.Common.{◌≡◌, ◌+◌, List, ◌∷◌, drop, sym, ap, subst, ◌∙◌, rules}
use Rattle.std.proofs.lemmas.List.{drop_more}
use Rattle.gs_base.specs.declared.names.Topic.{Topic}
use Rattle.gs_params.specs.declared.topic_params.TopicParams.{TopicParams}
use Rattle.gs_score.proofs.Telling.{TellsWith, tells_on}
use Rattle.gs_score.proofs.rulebook.rules_by_topic.Goals as goal

pub loop-topic-preserved : goal.loop-topic-preserved
loop-topic-preserved c =
    let params = c.args.params.now in
    let items = c.as_slice-topic-items.result.now in
    let same : params.topics ≡ items = search rules in
    let i = c.loop-topic.topic-index in
    let x : Topic × TopicParams = c.loop-topic-item.result in
    let here : drop i items ≡ x ∷ drop (i + 1) items
    = drop_more items i x c.loop-topic-test.true ∙ ap (λ y. y ∷ drop (i + 1) items) (sym c.loop-topic-item.is) in
    let there : drop i params.topics ≡ x ∷ drop (i + 1) params.topics
    = subst (λ (topics : List (Topic × TopicParams)). drop i topics ≡ x ∷ drop (i + 1) topics) (sym same) here in
    tells_on params c.loop-topic.rules.entries c.note.new.rules.entries x (drop (i + 1) params.topics)
    c.in_ok-note.ensures
    (subst (TellsWith params c.loop-topic.rules.entries) there c.loop-topic.invariant)
