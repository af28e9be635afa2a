use Rattle.std.proofs.Common.{◌∙◌}
use Rattle.gs_net.proofs.Beginning.{begins, given_there}
use Rattle.gs_net.proofs.tasks.Builder.task.Goals as goal

pub new-requires : goal.new-requires
new-requires g c = record { apart = c.requires.usable.apart }

pub new-requires-2 : goal.new-requires-2
new-requires-2 g c =
    begins c.args.self.now.plan.now c.args.number c.in_ok-assignment.assignment c.in_ok-router.router c.args.ends.items c.new.result c.requires.range c.in_ok-assignment.ensures c.in_ok-router.ensures c.new.ensures.ends c.requires.usable

pub returns-in-Ok : goal.returns-in-Ok
returns-in-Ok g c = record {
  can = c.in-Ok.ensures.can;
  is = c.in-Ok.ensures.is ∙ given_there c.args.self.now.plan.now c.args.number c.in_ok-assignment.assignment c.in_ok-router.router c.in_ok-words.words c.args.ends.items c.new.result c.in_ok-assignment.ensures c.in_ok-router.ensures c.in_ok-words.ensures c.new.ensures.ends;
  stops = c.in-Ok.ensures.flag ∙ c.in_ok-stop.ensures;
}
