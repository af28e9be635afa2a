use Rattle.gs_scenario.specs.PlanOf.{topic_in}
use Rattle.gs_scenario.proofs.scenario.topics.topics_in.Given as goal

-- what each element is read as
abbrev pub ghost-read_each : goal.ghost-read_each
ghost-read_each a = topic_in
