use Rattle.std.proofs.Common.{subst}
use Rattle.std.proofs.KnownBytes.{Keeps-refl}
use Rattle.gs_program.specs.Printing.{Prints}
use Rattle.gs_program.proofs.program.Program.tell_end.Goals as goal

pub returns-in-Ok-clause-ends : goal.returns-in-Ok-clause-ends
returns-in-Ok-clause-ends g c needs report run output output' printed input input' scenario at_end = record {
  plan = c.args.plan.now;
  scenario = scenario;
  at_end = at_end;
  report = report;
  run = run;
  text = subst (Prints g.P.Printer.in_parts (g.P.Printer.text c.args.self.now.printer c.args.plan.now report) output output') c.in-Ok.is printed;
  silent = Keeps-refl _;
}
