use Rattle.std.proofs.Common.{◌∙◌, ◌%◌, ℕ, ap, refl}
use Rattle.gs_base.specs.Names.{peers_of}
use Rattle.gs_seats.proofs.NeighbourLists.{links_in}
use Rattle.gs_net.proofs.tasks.assignment_of.Goals as goal

pub returns : goal.returns
returns c = record {
  number = refl;
  numbers = c.in_ok-numbers_of.ensures ∙ ap peers_of c.requires.neighbours ∙ links_in c.args.plan.now c.args.number;
  lines = c.in_ok-of.ensures ∙ c.requires.own;
  round_ms = refl;
  rounds = refl;
  phase = c.phase_of.ensures;
  worker = ap (λ (n : ℕ). n % c.args.plan.now.workers) c.from.ensures;
}
