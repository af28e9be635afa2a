use Rattle.std.proofs.Common.{◌+◌, ◌<◌, arith}
use Rattle.std.proofs.lemmas.List.Elements.{All-push, All-weaker}
use Rattle.gs_base.specs.declared.names.PeerNo.{PeerNo}
use Rattle.gs_params.proofs.Picking.{ascending_push}
use Rattle.gs_value_tests.proofs.tests.params.picks.numbered.Goals as goal

pub loop-i-preserved : goal.loop-i-preserved
loop-i-preserved c =
    let items = c.loop-i.peers.items in
    record {
      ascending = rw c.in_ok-push.ensures.items (ascending_push items _ c.loop-i.invariant.ascending c.loop-i.invariant.below);
      below = rw c.in_ok-push.ensures.items (All-push (λ (p : PeerNo). p.0 < c.loop-i.i + 1 + 1) items _ (All-weaker (λ (p : PeerNo). p.0 < c.loop-i.i + 1) (λ (p : PeerNo). p.0 < c.loop-i.i + 1 + 1) (λ p h. omega arith) items c.loop-i.invariant.below) (omega arith));
    }
