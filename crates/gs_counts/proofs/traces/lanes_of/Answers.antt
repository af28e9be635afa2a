use Rattle.std.proofs.Common.{ap, map, ◌∙◌}
use Rattle.gs_base.specs.Names.{peers_of}
use Rattle.gs_seats.specs.Rounds.{neighbours}
use Rattle.gs_counts.specs.Lanes.{new_lane}
use Rattle.gs_counts.proofs.Entries.{all_named}
use Rattle.gs_counts.proofs.traces.lanes_of.Goals as goal

pub returns : goal.returns
returns c =
    c.in_ok-lanes.ensures
    ∙ ap (λ ns. map new_lane (peers_of ns)) (c.deref.ensures.value ∙ c.in_ok-neighbours.ensures)
    ∙ all_named c.args.plan.now c.args.peer (neighbours c.args.plan.now c.args.peer)
