use Rattle.std.proofs.Common.{◌≡◌, drop}
use Rattle.std.specs.Prelude.{◌||◌}
use Rattle.std.specs.List.{list_any}
use Rattle.gs_base.specs.Names.{same_peer}
use Rattle.gs_base.specs.declared.names.PeerNo.{PeerNo}
use Rattle.gs_base.specs.declared.neighbour.Neighbour.{Neighbour}
use Rattle.gs_score.specs.Ledgers.{account_of, has_account, nothing_counted}
use Rattle.gs_score.proofs.accounts.open_accounts.Given as goal

abbrev pub invariant-loop-neighbour : goal.invariant-loop-neighbour
invariant-loop-neighbour l = record {
  nothing : (q : PeerNo) → account_of l.accounts.entries q ≡ nothing_counted;
  all
      : (q : PeerNo)
      → (has_account l.accounts.entries q || list_any (λ (n : Neighbour). same_peer q n.peer) (drop l.neighbour-index l.neighbours))
      ≡ list_any (λ (n : Neighbour). same_peer q n.peer) l.neighbours;
}
