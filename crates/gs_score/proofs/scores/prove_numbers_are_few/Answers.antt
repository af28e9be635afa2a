use Rattle.gs_score.proofs.Placing.{few_neighbours}
use Rattle.gs_score.proofs.scores.prove_numbers_are_few.Goals as goal

pub returns-in-Some : goal.returns-in-Some
returns-in-Some c = few_neighbours c.args.neighbours.now c.requires c.in-Some.last.now c.in-Some.ensures.value c.prove_number_fits.ensures
