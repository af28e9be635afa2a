use Rattle.std.proofs.Common.{ℕ, List, Option, false, true, subst}
use Rattle.gs_plan.specs.declared.limits.Limits.TheVariants.{Standard}
use Rattle.gs_report.specs.Text.{report_text}
use Rattle.gs_program.specs.Program.{EndsAs}
use Rattle.gs_program.proofs.Meets.{any_fault}
use Rattle.gossip_sim.proofs.report.run.Goals as goal

pub returns-in-Ok : goal.returns-in-Ok
returns-in-Ok g c =
    subst (λ (told : Option (List ℕ)). EndsAs Standard report_text false true c.write.result (g.R.Read.remaining c.args.input.now) (g.R.Read.remaining c.read.new.input) (g.W.Write.contents c.args.output.now) (g.W.Write.contents c.write.new.output) told (g.E.Write.contents c.write.new.errors)) c.in-Ok.ensures.silent
    (c.write.ensures.ends true (any_fault c.run_net-ran.result) (g.R.Read.remaining c.args.input.now) (g.R.Read.remaining c.read.new.input) c.in-Ok.ensures.found c.in-Ok.ensures.at_end)
