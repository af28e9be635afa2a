use Rattle.std.proofs.Common.{◌≤◌, ◌^◌, ◌∙◌, unsigned_abs, List, filter, refl, sym, ap, subst}
use Rattle.std.specs.Prelude.{All}
use Rattle.gs_base.specs.declared.neighbour.Neighbour.{Neighbour}
use Rattle.gs_base.specs.Names.{peers_of}
use Rattle.gs_params.specs.Picks.{IsAscending}
use Rattle.gs_rules.specs.Peers.{Peer}
use Rattle.gs_router.proofs.watcher.Watcher.new.Goals as goal

pub new-requires-clause-ascending : goal.new-requires-clause-ascending
new-requires-clause-ascending c = subst (λ (ns : List Neighbour). IsAscending (peers_of ns)) (sym c.as_slice.ensures.value) c.requires.ascending

pub new-requires-clause-apps : goal.new-requires-clause-apps
new-requires-clause-apps c = subst (λ (ns : List Neighbour). All (λ (n : Neighbour). unsigned_abs n.app ≤ 10 ^ 12) ns) (sym c.as_slice.ensures.value) c.requires.apps

pub returns : goal.returns
returns c =
    let p : Peer = record { params = c.args.params; neighbours = c.args.neighbours.items } in
    record {
      peer = refl;
      counted = refl;
      agrees = c.in_ok-tables.ensures.agrees;
      scores = c.in_ok-tables.ensures.scores p refl (sym c.as_slice.ensures.value);
      made = c.in_ok-tables.ensures.made p refl;
      explicit = c.in_ok-explicit.ensures ∙ ap (λ (ns : List Neighbour). peers_of (filter (λ (n : Neighbour). n.explicit) ns)) c.as_slice-2.ensures.value;
    }
