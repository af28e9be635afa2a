use Rattle.gs_score.specs.Histories.{held_by, named}
use Rattle.gs_score.proofs.Naming.{named_covers}
use Rattle.gs_rules.specs.Scored.{parts_of_score, topics_of_neighbour}
use Rattle.gs_rules.specs.Scoring.{history, setting_of}
use Rattle.gs_router.proofs.Ascending.{ascending_covers}
use Rattle.gs_router.proofs.tables.standings.Standings.score_parts.Goals as goal

pub returns : goal.returns
unfolding parts_of_score
returns c = λ p L agrees.
    let H = history p L in
    let q = c.args.peer in
    c.score_parts.ensures (setting_of p) H (topics_of_neighbour p L q) agrees (ascending_covers (held_by p.params H q) (named H q) (named_covers p.params H q))
