use Rattle.gs_params.proofs.Picking.{picked_is_sample, picked_from_front}
use Rattle.gs_params.proofs.picks.a_pick_is_the_front_of_a_shuffle.Goals as goal

pub returns-clause-sample : goal.returns-clause-sample
returns-clause-sample g c = λ k candidates words up. picked_is_sample g.W.Words.word g.W.Words.after k candidates words up

pub returns-clause-front : goal.returns-clause-front
returns-clause-front g c = λ k candidates words p fewer. picked_from_front g.W.Words.word g.W.Words.after k candidates words p fewer
