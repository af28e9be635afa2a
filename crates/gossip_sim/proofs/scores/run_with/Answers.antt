use Rattle.std.proofs.Common.{true, Some, option_map, sym, ap, ◌∙◌}
use Rattle.std.specs.Process.{exit_status}
use Rattle.gs_program.specs.Options.{options_of}
use Rattle.gossip_sim.specs.ScoresCommand.{asked_of, printed_for, usage, wishes_for}
use Rattle.gossip_sim.specs.declared.scores.ScoresOf.{ScoresOf}
use Rattle.gossip_sim.proofs.Wished.{wished}
use Rattle.gossip_sim.proofs.scores.run_with.Goals as goal

pub returns-in-Some : goal.returns-in-Some
returns-in-Some g c =
    let given = options_of c.args.options.now in
    let program = c.program_with-program.result in
    wished usage printed_for true given (wishes_for given) (asked_of program.printer.asked) program.limits program.progress
    (exit_status c.run_to_exit.result) (g.R.Read.remaining c.args.input.now) (g.R.Read.remaining c.run_to_exit.new.input) (g.W.Write.contents c.args.output.now) (g.W.Write.contents c.run_to_exit.new.output) (g.E.Write.contents c.args.errors.now) (g.E.Write.contents c.run_to_exit.new.errors)
    (ap (λ (p : ScoresOf). Some (asked_of p.asked)) c.program_with-program.ensures.printer ∙ ap (option_map asked_of) (sym c.in-Some.is) ∙ c.asked_by.ensures)
    c.program_with-program.ensures.limits c.program_with-program.ensures.progress c.run_to_exit.ensures
