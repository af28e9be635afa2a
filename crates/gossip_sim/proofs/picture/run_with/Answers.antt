use Rattle.std.proofs.Common.{false, Some, ap, ◌∙◌}
use Rattle.std.specs.Process.{exit_status}
use Rattle.gs_program.specs.Options.{options_of}
use Rattle.gossip_sim.specs.PictureCommand.{Wishes, printed, usage, wishes_for, wishes_of}
use Rattle.gossip_sim.specs.declared.picture.PictureOf.{PictureOf}
use Rattle.gossip_sim.proofs.Wished.{wished}
use Rattle.gossip_sim.proofs.picture.run_with.Goals as goal

pub returns : goal.returns
returns g c =
    let given = options_of c.args.options.now in
    let program = c.program_with.result in
    wished usage printed false given (wishes_for given) (wishes_of program.printer.asked) program.limits program.progress
    (exit_status c.run_to_exit.result) (g.R.Read.remaining c.args.input.now) (g.R.Read.remaining c.run_to_exit.new.input) (g.W.Write.contents c.args.output.now) (g.W.Write.contents c.run_to_exit.new.output) (g.E.Write.contents c.args.errors.now) (g.E.Write.contents c.run_to_exit.new.errors)
    (ap (λ (p : PictureOf). Some (wishes_of p.asked)) c.program_with.ensures.printer ∙ ap (λ (w : Wishes). Some w) c.asked_by-asked.ensures)
    c.program_with.ensures.limits c.program_with.ensures.progress c.run_to_exit.ensures
