use Rattle.std.proofs.Common.{rules, [], refl}
use Rattle.gs_program.proofs.Noted.{lands, none_so_far, progress_ran}
use Rattle.gs_program.proofs.program.Program.ran.Goals as goal

pub returns-clause-progress : goal.returns-clause-progress
returns-clause-progress g c =
    let wanted = c.args.self.now.progress in
    let plan = c.args.plan.now in
    let errors = g.E.Write.contents c.args.errors.now in
    let gauge = c.run_direct.new.gauge in
    progress_ran _ _ _ wanted plan errors _
    (λ stages shows.
    lands g.E.Write.contents _ gauge.errors.ghost_name gauge.wanted gauge.rounds stages _ gauge.errors.now (search rules)
    (shows (record { name = _; wanted = wanted; rounds = plan.rounds; errors = errors }) [] (record { name_is = refl; wanted_is = refl; rounds_is = refl; lines = none_so_far wanted plan.rounds errors })))
    c.run_direct.result c.run_direct.ensures.report c.run_direct.ensures.shown c.run_direct.ensures.stopped
