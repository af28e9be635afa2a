use Rattle.gossip_sim.specs.PictureCommand.{wishes_of}
use Rattle.gossip_sim.specs.PictureCommand.{printed}
use Rattle.gossip_sim.proofs.picture.PictureOfPrinter.print.Goals as goal

pub returns : goal.returns
returns g c = c.print_whole.ensures.made (printed (wishes_of c.args.self.now.asked) c.args.plan.now c.args.report.now) c.printed.ensures
