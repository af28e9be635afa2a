use Rattle.std.proofs.Common.{ℕ, List, subst}
use Rattle.std.proofs.KnownBytes.{Keeps-refl}
use Rattle.std.specs.Io.KnownBytes.{Appends}
use Rattle.gs_streams.specs.Streams.{AppendsFront}
use Rattle.gs_program.proofs.summary.SummaryProgram.write_summary.Goals as goal

pub returns-in-Ok-clause-ends : goal.returns-in-Ok-clause-ends
returns-in-Ok-clause-ends g c = λ input input' scenario at_end. record {
  plan = c.args.plan.now;
  scenario = scenario;
  at_end = at_end;
  report = c.requires.report;
  run = c.requires.run;
  text = subst (λ (text : List ℕ). Appends (g.W.Write.contents c.args.output.now) (g.W.Write.contents c.write_text.new.output) text) c.requires.is c.in-Ok.ensures.ok;
  silent = Keeps-refl _;
}

pub returns-in-Err-clause-ends : goal.returns-in-Err-clause-ends
returns-in-Err-clause-ends g c = λ input input' scenario at_end. record {
  plan = c.args.plan.now;
  scenario = scenario;
  report = c.requires.report;
  run = c.requires.run;
  text = subst (λ (text : List ℕ). AppendsFront (g.W.Write.contents c.args.output.now) (g.W.Write.contents c.write_text.new.output) text) c.requires.is c.in-Err.ensures.err;
  line = c.try_to_write.ensures;
}
