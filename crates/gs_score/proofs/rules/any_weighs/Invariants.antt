use Rattle.std.proofs.Common.{drop}
use Rattle.std.specs.List.{AllByRecursion}
use Rattle.gs_base.specs.declared.names.Topic.{Topic}
use Rattle.gs_params.specs.declared.topic_params.TopicParams.{TopicParams}
use Rattle.gs_score.proofs.NoWeight.{IsWeightless}
use Rattle.gs_score.proofs.rules.any_weighs.Given as goal

abbrev pub invariant-loop-entry : goal.invariant-loop-entry
invariant-loop-entry l =
    AllByRecursion (λ (x : Topic × TopicParams). IsWeightless x.1.factors) (drop l.entry-index l.topics)
    → AllByRecursion (λ (x : Topic × TopicParams). IsWeightless x.1.factors) l.topics
