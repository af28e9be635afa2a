use Rattle.std.proofs.Common.{◌≡◌, ◌≤◌, ◌<◌, ◌+◌, ◌^◌, ℕ, unsigned_abs, List, [], ◌∷◌, ◌++◌, arith}
use Rattle.std.specs.List.{All}
use Rattle.std.proofs.lemmas.List.{map-append}
use Rattle.std.proofs.lemmas.List.Elements.{All-push}
use Rattle.std.proofs.lemmas.List.Quantifiers.{all_pairs_push}
use Rattle.gs_base.specs.declared.names.PeerNo.{PeerNo}
use Rattle.gs_base.specs.declared.neighbour.Neighbour.{Neighbour}
use Rattle.gs_base.specs.Names.{peers_of}
use Rattle.gs_params.specs.Picks.{IsAscending}
use Rattle.gs_router_testkit.proofs.routers.neighbours.Goals as goal

-- one more, with a greater number
ascending_more : (before after : List Neighbour) (n : Neighbour) (k : ℕ) → IsAscending (peers_of before) → All (λ (q : PeerNo). q.0 ≤ k) (peers_of before) → after ≡ before ++ n ∷ [] → n.peer.0 ≡ k + 1 → IsAscending (peers_of after)
ascending_more before after n k up most is number =
    rw (is, map-append (λ (m : Neighbour). m.peer) before (n ∷ [])) (all_pairs_push (λ (p q : PeerNo). p.0 < q.0) (peers_of before) n.peer up (λ i d within. omega (arith, number, most i d within)))

most_more : (before after : List Neighbour) (n : Neighbour) (k : ℕ) → All (λ (q : PeerNo). q.0 ≤ k) (peers_of before) → after ≡ before ++ n ∷ [] → n.peer.0 ≡ k + 1 → All (λ (q : PeerNo). q.0 ≤ k + 1) (peers_of after)
most_more before after n k most is number =
    rw (is, map-append (λ (m : Neighbour). m.peer) before (n ∷ [])) (All-push (λ (q : PeerNo). q.0 ≤ k + 1) (peers_of before) n.peer (λ i d within. omega (arith, most i d within)) (omega (arith, number)))

apps_more : (before after : List Neighbour) (n : Neighbour) → All (λ (m : Neighbour). unsigned_abs m.app ≤ 10 ^ 12) before → after ≡ before ++ n ∷ [] → unsigned_abs n.app ≤ 10 ^ 12 → All (λ (m : Neighbour). unsigned_abs m.app ≤ 10 ^ 12) after
apps_more before after n within is most =
    rw is (All-push (λ (m : Neighbour). unsigned_abs m.app ≤ 10 ^ 12) before n within most)

pub loop-below-preserved : goal.loop-below-preserved
loop-below-preserved c = record {
  ascending = ascending_more c.loop-below.list.items _ c.in_ok-one.one c.loop-below.below c.loop-below.invariant.ascending c.loop-below.invariant.most c.in_ok-push.ensures.items c.in_ok-one.ensures.number;
  most = most_more c.loop-below.list.items _ c.in_ok-one.one c.loop-below.below c.loop-below.invariant.most c.in_ok-push.ensures.items c.in_ok-one.ensures.number;
  apps = apps_more c.loop-below.list.items _ c.in_ok-one.one c.loop-below.invariant.apps c.in_ok-push.ensures.items c.in_ok-one.ensures.app;
}
