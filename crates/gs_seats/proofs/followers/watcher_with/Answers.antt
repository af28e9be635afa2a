use Rattle.std.proofs.Common.{◌≤◌, ◌^◌, unsigned_abs, List, [], sym, subst}
use Rattle.std.specs.Prelude.{All}
use Rattle.gs_base.specs.declared.neighbour.Neighbour.{Neighbour}
use Rattle.gs_base.specs.Names.{peers_of}
use Rattle.gs_params.specs.declared.params.Params.{Params}
use Rattle.gs_params.specs.Params.{AreInRange}
use Rattle.gs_params.specs.Picks.{IsAscending}
use Rattle.gs_router.specs.Watching.{Watches}
use Rattle.gs_seats.specs.Rounds.{neighbours_in}
use Rattle.gs_seats.proofs.NeighbourLists.{links_ascend}
use Rattle.gs_seats.proofs.Within.{apps_within, params_in_range}
use Rattle.gs_seats.proofs.followers.watcher_with.Goals as goal

pub new-requires-clause-in_range : goal.new-requires-clause-in_range
new-requires-clause-in_range c = subst AreInRange (sym c.in_ok-params.ensures) (params_in_range c.args.plan.now c.requires.range)

pub new-requires-clause-ascending : goal.new-requires-clause-ascending
new-requires-clause-ascending c = subst (λ (ns : List Neighbour). IsAscending (peers_of ns)) (sym c.requires.neighbours) (links_ascend c.args.plan.now c.args.number)

pub new-requires-clause-apps : goal.new-requires-clause-apps
new-requires-clause-apps c = subst (λ (ns : List Neighbour). All (λ (n : Neighbour). unsigned_abs n.app ≤ 10 ^ 12) ns) (sym c.requires.neighbours) (apps_within c.args.plan.now c.args.number c.requires.range)

pub returns : goal.returns
returns c =
    let w = c.in_ok-watcher.watcher in
    subst (λ (params : Params). Watches w (record { params = params; neighbours = neighbours_in c.args.plan.now c.args.number }) []) c.in_ok-params.ensures
    (subst (λ (ns : List Neighbour). Watches w (record { params = c.in_ok-params.params; neighbours = ns }) []) c.requires.neighbours c.in_ok-watcher.ensures)
