use Rattle.std.proofs.Common.{◌≡◌, List, ◌∙◌, true, rules, sym, subst}
use Rattle.std.specs.List.{AllByRecursion}
use Rattle.gs_base.specs.declared.names.PeerNo.{PeerNo}
use Rattle.gs_params.specs.Picks.{IsAscending}
use Rattle.gs_ends.specs.Ends.{has}
use Rattle.gs_rules.specs.Peers.{links_of}
use Rattle.gs_run_tests.proofs.tests.peer.made.task_given.Goals as goal

pub router-requires : goal.router-requires
router-requires g c = subst (λ (qs : List PeerNo). IsAscending qs) (sym c.deref.ensures.value) c.requires.ascending

pub new-requires-2 : goal.new-requires-2
new-requires-2 g c =
    let links : links_of c.in_ok-router.router.peer ≡ c.args.assignment.neighbours.items = c.in_ok-router.ensures.links ∙ c.deref.ensures.value in
    record {
      small = c.requires.small;
      neighbours = sym links;
      ascending = subst (λ (qs : List PeerNo). IsAscending qs) (sym links) c.requires.ascending;
      known = subst (λ (qs : List PeerNo). AllByRecursion (λ q. has (g.S.Ends.joints c.args.surroundings.ends) q ≡ true) qs) (sym links) c.requires.known;
      fresh = c.in_ok-router.ensures.trace;
      running = c.in_ok-router.ensures.runs;
      none_accepted = c.requires.accepted;
      none_taken = c.requires.taken;
    }
