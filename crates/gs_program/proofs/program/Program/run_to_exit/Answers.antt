use Rattle.std.proofs.Common.{false}
use Rattle.std.specs.Process.{exit_status}
use Rattle.gs_program.proofs.Noted.{exits}
use Rattle.gs_program.proofs.program.Program.run_to_exit.Goals as goal

pub returns : goal.returns
returns g c = exits c.args.self.now.limits (g.P.Printer.text c.args.self.now.printer) g.P.Printer.in_parts false c.args.self.now.progress c.run.result (exit_status c.from.result) _ _ _ _ _ _ c.from.ensures c.run.ensures
