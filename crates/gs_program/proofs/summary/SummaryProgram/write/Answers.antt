use Rattle.std.proofs.Common.{false, true≢false, refl, sym, ap}
use Rattle.std.specs.Prelude.{None, is_ok}
use Rattle.std.proofs.KnownBytes.{Keeps-refl}
use Rattle.gs_seats.specs.declared.fault.NetFault.TheVariants.{NoMemory}
use Rattle.gs_program.specs.Progress.{has_ended}
use Rattle.gs_streams.specs.declared.exit_status.ExitStatus.TheVariants.{Unfinished}
use Rattle.gs_program.proofs.Noted.{ends_after, progress_stays}
use Rattle.gs_program.proofs.summary.SummaryProgram.write.Goals as goal

pub returns-in-Ok-clause-ends : goal.returns-in-Ok-clause-ends
returns-in-Ok-clause-ends g c = λ input input' scenario at_end.
    let self = c.args.self.now in
    ends_after self.limits (g.S.Summarizer.text self.summarizer) false false self.progress c.write_summary.result input input' _ _ _ _ _ c.args.plan.now c.write_summary.ensures.begun scenario
    (progress_stays self.progress c.args.plan.now (is_ok c.summarize.result) (has_ended c.write_summary.result) _ _ (λ ended. ap is_ok c.in-Ok.is) c.summarize.ensures.progress)
    (c.write_summary.ensures.ends input input' scenario at_end)

pub returns-in-Err-clause-ends : goal.returns-in-Err-clause-ends
returns-in-Err-clause-ends g c = λ input input' scenario at_end.
    let self = c.args.self.now in
    ends_after self.limits (g.S.Summarizer.text self.summarizer) false false self.progress Unfinished input input' _ _ _ _ _ c.args.plan.now refl scenario
    (progress_stays self.progress c.args.plan.now (is_ok c.summarize.result) false _ _ (λ never. absurd (true≢false (sym never))) c.summarize.ensures.progress)
    (record {
      plan = c.args.plan.now;
      scenario = scenario;
      fault = NoMemory None;
      met = λ _. refl;
      tells = c.tell_fault.ensures;
      silent = Keeps-refl _;
    })
