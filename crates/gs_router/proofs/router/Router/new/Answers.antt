use Rattle.std.proofs.Common.{◌≤◌, ◌^◌, ◌∙◌, unsigned_abs, List, filter, refl, sym, ap, subst}
use Rattle.std.specs.Prelude.{All}
use Rattle.gs_base.specs.declared.neighbour.Neighbour.{Neighbour}
use Rattle.gs_base.specs.Names.{peers_of}
use Rattle.gs_params.specs.Picks.{IsAscending}
use Rattle.gs_rules.specs.Peers.{Peer}
use Rattle.gs_rules.specs.Tables.{Entries}
use Rattle.gs_rules.specs.Owed.{owed}
use Rattle.gs_rules.specs.Legal.{Legal}
use Rattle.gs_router.specs.Tables.{Agrees, AgreesOnScores}
use Rattle.gs_router.proofs.router.Router.new.Goals as goal

pub new-requires-clause-ascending : goal.new-requires-clause-ascending
new-requires-clause-ascending g c = subst (λ (ns : List Neighbour). IsAscending (peers_of ns)) (sym c.as_slice.ensures.value) c.requires.ascending

pub new-requires-clause-apps : goal.new-requires-clause-apps
new-requires-clause-apps g c = subst (λ (ns : List Neighbour). All (λ (n : Neighbour). unsigned_abs n.app ≤ 10 ^ 12) ns) (sym c.as_slice.ensures.value) c.requires.apps

pub invariant_of-result : goal.invariant_of-result
invariant_of-result g c =
    let p : Peer = record { params = c.args.params; neighbours = c.args.neighbours.items } in
    let legal = subst (λ (L : Entries). Legal p L) (sym c.new-2.ensures) refl in
    record {
      legal = legal;
      ready = λ running. record {
        current = record {
          legal = legal;
          agrees = subst (λ (L : Entries). Agrees c.in_ok-tables.tables L) (sym c.new-2.ensures) c.in_ok-tables.ensures.agrees;
          scores = subst (λ (L : Entries). AgreesOnScores p c.in_ok-tables.tables.standings L) (sym c.new-2.ensures) (c.in_ok-tables.ensures.scores p refl (sym c.as_slice.ensures.value));
          made = c.in_ok-tables.ensures.made p refl;
          fit = record {
            ascending = c.requires.ascending;
            ticks = c.requires.in_range.timing.opportunistic_ticks.0;
            room = c.requires.in_range.degrees.best;
            explicit = c.in_ok-explicit.ensures ∙ ap (λ (ns : List Neighbour). peers_of (filter (λ (n : Neighbour). n.explicit) ns)) c.as_slice-2.ensures.value;
          };
        };
        settled = ap (owed p) c.new-2.ensures;
      };
    }
