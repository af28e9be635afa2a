use Rattle.gossip_sim.proofs.OneText.{of_alike_plans, of_alike_scenarios}
use Rattle.gossip_sim.proofs.laws.two_runs_write_the_same.Goals as goal

pub returns-clause-plans : goal.returns-clause-plans
returns-clause-plans c = of_alike_plans

pub returns-clause-scenarios : goal.returns-clause-scenarios
returns-clause-scenarios c = of_alike_scenarios
