use Rattle.gs_scenario.proofs.PlanRanges.{plan_in_range, plan_within}
use Rattle.gs_scenario.proofs.scenario.read_plan.Goals as goal

pub returns-in-Ok-clause-within : goal.returns-in-Ok-clause-within
returns-in-Ok-clause-within c = plan_within c.args.limits c.args.text.now c.plan_in.result (rw c.in-Ok.ensures.ok c.plan_in.ensures)

pub returns-in-Ok-clause-in_range : goal.returns-in-Ok-clause-in_range
returns-in-Ok-clause-in_range c = plan_in_range c.args.limits c.args.text.now c.plan_in.result (rw c.in-Ok.ensures.ok c.plan_in.ensures)
