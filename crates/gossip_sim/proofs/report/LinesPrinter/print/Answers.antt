use Rattle.gs_report.specs.Text.{report_text}
use Rattle.gossip_sim.proofs.report.LinesPrinter.print.Goals as goal

pub returns : goal.returns
returns g c = c.print_whole.ensures.made (report_text c.args.plan.now c.args.report.now) c.report_text.ensures
