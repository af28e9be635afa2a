use Rattle.std.proofs.Common.{◌≡◌, List, sym, subst, rules}
use Rattle.gs_base.specs.declared.names.PeerNo.{PeerNo}
use Rattle.gs_params.specs.Picks.{IsAscending}
use Rattle.gs_run_tests.proofs.tests.peer.made.router.Goals as goal

pub new-requires-2-clause-ascending : goal.new-requires-2-clause-ascending
new-requires-2-clause-ascending c = subst (λ (qs : List PeerNo). IsAscending qs) (sym c.in_ok-list.ensures.peers) c.requires
