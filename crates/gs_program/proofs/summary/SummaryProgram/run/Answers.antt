use Rattle.std.proofs.Common.{ℕ, List, Option, false, subst}
use Rattle.gs_program.specs.Progress.{EndsShowing}
use Rattle.gs_program.proofs.Noted.{ends_unread}
use Rattle.gs_program.proofs.summary.SummaryProgram.run.Goals as goal

pub returns-in-Ok : goal.returns-in-Ok
returns-in-Ok g c =
    subst (λ (told : Option (List ℕ)). EndsShowing c.args.self.now.limits (g.S.Summarizer.text c.args.self.now.summarizer) false false c.args.self.now.progress c.write.result (g.R.Read.remaining c.args.input.now) (g.R.Read.remaining c.read.new.input) (g.W.Write.contents c.args.output.now) (g.W.Write.contents c.write.new.output) told (g.E.Write.contents c.write.new.errors)) c.in-Ok.ensures.silent
    (c.write.ensures.ends (g.R.Read.remaining c.args.input.now) (g.R.Read.remaining c.read.new.input) c.in-Ok.ensures.found c.in-Ok.ensures.at_end)

pub returns-in-Err : goal.returns-in-Err
returns-in-Err g c =
    ends_unread c.args.self.now.limits (g.S.Summarizer.text c.args.self.now.summarizer) false false c.args.self.now.progress c.in-Err.status _ _ _ _ _ _ c.in-Err.ensures.unread
    (c.in-Err.ensures.refused (g.W.Write.contents c.args.output.now))
