use Rattle.std.proofs.Common.{true, Some, option_map, sym, ap, ◌∙◌}
use Rattle.std.specs.Process.{exit_status}
use Rattle.gs_program.specs.Options.{options_of}
use Rattle.gs_trace.specs.Wanted.{wanted_text, wishes_of}
use Rattle.gossip_sim.specs.TraceCommand.{usage, wishes_for}
use Rattle.gossip_sim.specs.declared.trace.TraceOf.{TraceOf}
use Rattle.gossip_sim.proofs.Wished.{wished}
use Rattle.gossip_sim.proofs.trace.run_with.Goals as goal

pub returns-in-Some : goal.returns-in-Some
returns-in-Some g c =
    let given = options_of c.args.options.now in
    let program = c.program_with-program.result in
    wished usage wanted_text true given (wishes_for given) (wishes_of program.printer.wanted) program.limits program.progress
    (exit_status c.run_to_exit.result) (g.R.Read.remaining c.args.input.now) (g.R.Read.remaining c.run_to_exit.new.input) (g.W.Write.contents c.args.output.now) (g.W.Write.contents c.run_to_exit.new.output) (g.E.Write.contents c.args.errors.now) (g.E.Write.contents c.run_to_exit.new.errors)
    (ap (λ (p : TraceOf). Some (wishes_of p.wanted)) c.program_with-program.ensures.printer ∙ ap (option_map wishes_of) (sym c.in-Some.is) ∙ c.wanted_by.ensures)
    c.program_with-program.ensures.limits c.program_with-program.ensures.progress c.run_to_exit.ensures
