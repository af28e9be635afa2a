use Rattle.std.proofs.Common.{◌≡◌, ◌≤◌, ◌<◌, ◌+◌, ◌^◌, ◌∙◌, ℕ, unsigned_abs, List, [], ◌∷◌, ◌++◌, length, take, get_or, ap, ap₂, sym, rules}
use Rattle.std.specs.List.{All}
use Rattle.std.proofs.lemmas.List.{map-append, take_more}
use Rattle.std.proofs.lemmas.List.Elements.{All-push}
use Rattle.gs_base.specs.declared.names.PeerNo.{PeerNo}
use Rattle.gs_base.specs.declared.neighbour.Neighbour.{Neighbour}
use Rattle.gs_base.specs.Names.{peers_of}
use Rattle.gs_run_tests.proofs.tests.peer.made.neighbours.Goals as goal

-- one more of the numbers is a neighbour's
peers_more : (before after : List Neighbour) (n : Neighbour) (xs : List PeerNo) (i : ℕ) (d : PeerNo) → i < length xs → peers_of before ≡ take i xs → after ≡ before ++ n ∷ [] → n.peer ≡ get_or xs i d → peers_of after ≡ take (i + 1) xs
peers_more before after n xs i d low same is peer =
    ap peers_of is
    ∙ map-append (λ (m : Neighbour). m.peer) before (n ∷ [])
    ∙ ap₂ (λ (ps : List PeerNo) (p : PeerNo). ps ++ p ∷ []) same peer
    ∙ sym (take_more xs i d low)

apps_more : (before after : List Neighbour) (n : Neighbour) → All (λ (m : Neighbour). unsigned_abs m.app ≤ 10 ^ 12) before → after ≡ before ++ n ∷ [] → unsigned_abs n.app ≤ 10 ^ 12 → All (λ (m : Neighbour). unsigned_abs m.app ≤ 10 ^ 12) after
apps_more before after n within is most =
    rw is (All-push (λ (m : Neighbour). unsigned_abs m.app ≤ 10 ^ 12) before n within most)

pub loop-number-preserved : goal.loop-number-preserved
loop-number-preserved c = record {
  peers = peers_more c.loop-number.list.items _ c.neighbour-one.result c.args.numbers.now c.loop-number.number-index _ c.loop-number-test.true c.loop-number.invariant.peers c.in_ok-push.ensures.items c.neighbour-one.ensures.peer;
  apps = apps_more c.loop-number.list.items _ c.neighbour-one.result c.loop-number.invariant.apps c.in_ok-push.ensures.items (search rules);
}
