use Rattle.std.proofs.Common.{subst}
use Rattle.gs_program.specs.Printing.{StopsPrinting}
use Rattle.gs_program.proofs.program.Program.tell_unprinted.Goals as goal

pub returns-in-CutOff-clause-ends : goal.returns-in-CutOff-clause-ends
returns-in-CutOff-clause-ends g c needs report run output output' stopped input input' scenario =
    let (parts, front) = subst (StopsPrinting g.P.Printer.in_parts (g.P.Printer.text c.args.self.now.printer c.args.plan.now report) output output') c.in-CutOff.is stopped in (
      parts,
      record {
        plan = c.args.plan.now;
        scenario = scenario;
        report = report;
        run = run;
        text = front;
        line = c.try_to_write.ensures;
      },
    )

pub returns-in-WriteFailed-clause-ends : goal.returns-in-WriteFailed-clause-ends
returns-in-WriteFailed-clause-ends g c needs report run output output' stopped input input' scenario = record {
  plan = c.args.plan.now;
  scenario = scenario;
  report = report;
  run = run;
  text = subst (StopsPrinting g.P.Printer.in_parts (g.P.Printer.text c.args.self.now.printer c.args.plan.now report) output output') c.in-WriteFailed.is stopped;
  line = c.try_to_write-in-WriteFailed.ensures;
}
