use Rattle.std.proofs.Common.{◌≡◌, ◌≤◌, ◌<◌, ◌+◌, ℕ, List, [], ◌∷◌, ◌++◌, arith}
use Rattle.std.specs.List.{All}
use Rattle.std.proofs.lemmas.List.Elements.{All-push}
use Rattle.std.proofs.lemmas.List.Quantifiers.{all_pairs_push}
use Rattle.gs_base.specs.declared.names.PeerNo.{PeerNo}
use Rattle.gs_params.specs.Picks.{IsAscending}
use Rattle.gs_run_tests.proofs.tests.peer.crowds.numbers.Goals as goal

-- one more, with a greater number
ascending_more : (before after : List PeerNo) (k : ℕ) → IsAscending before → All (λ (q : PeerNo). q.0 ≤ k) before → after ≡ before ++ record { 0 = k + 1 } ∷ [] → IsAscending after
ascending_more before after k up most is =
    rw is (all_pairs_push (λ (p q : PeerNo). p.0 < q.0) before (record { 0 = k + 1 }) up (λ i d within. omega (arith, most i d within)))

most_more : (before after : List PeerNo) (k : ℕ) → All (λ (q : PeerNo). q.0 ≤ k) before → after ≡ before ++ record { 0 = k + 1 } ∷ [] → All (λ (q : PeerNo). q.0 ≤ k + 1) after
most_more before after k most is =
    rw is (All-push (λ (q : PeerNo). q.0 ≤ k + 1) before (record { 0 = k + 1 }) (λ i d within. omega (arith, most i d within)) (omega arith))

pub loop-below-preserved : goal.loop-below-preserved
loop-below-preserved c = record {
  ascending = ascending_more c.loop-below.numbers.items _ c.loop-below.below c.loop-below.invariant.ascending c.loop-below.invariant.most c.in_ok-push.ensures.items;
  most = most_more c.loop-below.numbers.items _ c.loop-below.below c.loop-below.invariant.most c.in_ok-push.ensures.items;
}
