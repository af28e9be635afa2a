use Rattle.std.proofs.Common.{◌∙◌}
use Rattle.std.specs.Int.{w128}
use Rattle.std.proofs.lemmas.Int.{to_z-of_z}
use Rattle.gs_seats.specs.Rounds.{peer_in}
use Rattle.gs_opinions.specs.Opinions.{opinion_of}
use Rattle.gs_opinions.proofs.traces.Judge.opinion_of.Goals as goal

pub returns : goal.returns
returns c = λ plan p L seen.
    let scored = to_z-of_z w128 c.score.result (record { sfits = c.score.type_inv }) ∙ c.score.ensures (peer_in plan p) L seen.watches in
    λ i. record (opinion_of plan p L c.args.at c.args.neighbour) { by = seen.number i; score = scored i }
