use Rattle.std.proofs.Common.{drop}
use Rattle.gs_score.proofs.Telling.{TellsWith}
use Rattle.gs_score.proofs.rulebook.rules_by_topic.Given as goal

abbrev pub invariant-loop-topic : goal.invariant-loop-topic
invariant-loop-topic l = TellsWith l.params l.rules.entries (drop l.topic-index l.params.topics)
