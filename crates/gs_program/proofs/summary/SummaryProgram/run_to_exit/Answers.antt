use Rattle.std.proofs.Common.{false}
use Rattle.std.specs.Process.{exit_status}
use Rattle.gs_program.proofs.Noted.{exits}
use Rattle.gs_program.proofs.summary.SummaryProgram.run_to_exit.Goals as goal

pub returns : goal.returns
returns g c = exits c.args.self.now.limits (g.S.Summarizer.text c.args.self.now.summarizer) false false c.args.self.now.progress c.run.result (exit_status c.from.result) _ _ _ _ _ _ c.from.ensures c.run.ensures
