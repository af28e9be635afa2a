use Rattle.std.proofs.Common.{ℕ, List, Option, false, subst}
use Rattle.std.specs.Prelude.{is_ok}
use Rattle.gs_program.specs.Progress.{EndsShowing, has_ended}
use Rattle.gs_program.proofs.Meets.{memory_only}
use Rattle.gs_program.proofs.Noted.{ends_after, ends_unread, progress_stays, ran_whole}
use Rattle.gs_program.proofs.program.Program.run.Goals as goal

pub returns-in-Ok : goal.returns-in-Ok
returns-in-Ok g c =
    let self = c.args.self.now in
    let plan = c.in-Ok.plan in
    subst (λ (told : Option (List ℕ)). EndsShowing self.limits (g.P.Printer.text self.printer) g.P.Printer.in_parts false self.progress c.write.result (g.R.Read.remaining c.args.input.now) (g.R.Read.remaining c.read.new.input) (g.W.Write.contents c.args.output.now) (g.W.Write.contents c.write.new.output) told (g.E.Write.contents c.write.new.errors)) c.in-Ok.ensures.silent
    (ends_after self.limits (g.P.Printer.text self.printer) g.P.Printer.in_parts false self.progress c.write.result _ _ _ _ _ _ _ plan c.write.ensures.begun c.in-Ok.ensures.found
    (progress_stays self.progress plan (is_ok c.ran-ran.result) (has_ended c.write.result) _ _ (ran_whole _ c.ran-ran.result c.write.result c.write.ensures.fault) c.ran-ran.ensures.progress)
    (c.write.ensures.ends false (memory_only c.ran-ran.result c.ran-ran.ensures.memory) (g.R.Read.remaining c.args.input.now) (g.R.Read.remaining c.read.new.input) c.in-Ok.ensures.found c.in-Ok.ensures.at_end))

pub returns-in-Err : goal.returns-in-Err
returns-in-Err g c =
    ends_unread c.args.self.now.limits (g.P.Printer.text c.args.self.now.printer) g.P.Printer.in_parts false c.args.self.now.progress c.in-Err.status _ _ _ _ _ _ c.in-Err.ensures.unread
    (c.in-Err.ensures.refused false (g.W.Write.contents c.args.output.now))
