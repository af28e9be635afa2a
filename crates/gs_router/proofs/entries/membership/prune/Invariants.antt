use Rattle.std.proofs.Common.{◌≡◌, ◌++◌, drop, map}
use Rattle.gs_base.specs.declared.names.PeerNo.{PeerNo}
use Rattle.gs_base.specs.declared.names.Topic.{Topic}
use Rattle.gs_base.specs.declared.mark.Mark.TheVariants.{Pruned}
use Rattle.gs_router.proofs.entries.membership.prune.Given as goal

abbrev pub invariant-loop-pair : goal.invariant-loop-pair
invariant-loop-pair l =
    l.marks ++ map (λ (x : PeerNo × Topic). Pruned x.0 x.1) (drop l.pair-index l.pairs)
    ≡ l.initial.marks ++ map (λ (x : PeerNo × Topic). Pruned x.0 x.1) l.pairs
