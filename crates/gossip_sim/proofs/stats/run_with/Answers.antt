use Rattle.std.proofs.Common.{false, Some, option_map, sym, ap, ◌∙◌}
use Rattle.std.specs.Process.{exit_status}
use Rattle.gs_program.specs.Options.{options_of}
use Rattle.gossip_sim.specs.StatsCommand.{printed}
use Rattle.gossip_sim.specs.StatsWishes.{usage, wishes_for, wishes_of}
use Rattle.gossip_sim.specs.declared.stats.FiguresOf.{FiguresOf}
use Rattle.gossip_sim.proofs.Wished.{wished}
use Rattle.gossip_sim.proofs.stats.run_with.Goals as goal

pub returns-in-Some : goal.returns-in-Some
returns-in-Some g c =
    let given = options_of c.args.options.now in
    let program = c.summary_with-program.result in
    wished usage printed false given (wishes_for given) (wishes_of program.summarizer.asked) program.limits program.progress
    (exit_status c.run_to_exit.result) (g.R.Read.remaining c.args.input.now) (g.R.Read.remaining c.run_to_exit.new.input) (g.W.Write.contents c.args.output.now) (g.W.Write.contents c.run_to_exit.new.output) (g.E.Write.contents c.args.errors.now) (g.E.Write.contents c.run_to_exit.new.errors)
    (ap (λ (p : FiguresOf). Some (wishes_of p.asked)) c.summary_with-program.ensures.summarizer ∙ ap (option_map wishes_of) (sym c.in-Some.is) ∙ c.asked_by.ensures)
    c.summary_with-program.ensures.limits c.summary_with-program.ensures.progress c.run_to_exit.ensures
