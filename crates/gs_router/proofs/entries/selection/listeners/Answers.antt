use Rattle.std.proofs.Common.{◌≡◌, ◌∙◌, Bool, true, false, cond, List, [], ◌∷◌, filter, refl, sym, ap}
use Rattle.std.specs.Prelude.{◌&&◌}
use Rattle.gs_base.specs.declared.names.PeerNo.{PeerNo}
use Rattle.gs_rules.specs.Tables.{on, up}
use Rattle.gs_rules.specs.Peers.{links_of}
use Rattle.gs_router.specs.PeerSets.{has}
use Rattle.gs_router.specs.Known.{peer_with}
use Rattle.gs_router.proofs.entries.selection.listeners.Goals as goal

none_pass : (test : PeerNo → Bool) (qs : List PeerNo) → ((q : PeerNo) → test q ≡ false) → filter test qs ≡ []
none_pass test [] none = refl
none_pass test (q ∷ qs) none = ap (λ (b : Bool). cond b (q ∷ filter test qs) (filter test qs)) (none q) ∙ none_pass test qs none

and_false : (a b : Bool) → b ≡ false → (a && b) ≡ false
and_false true b h = h
and_false false b h = refl

same_pass : (f g : PeerNo → Bool) (qs : List PeerNo) → ((q : PeerNo) → f q ≡ g q) → filter f qs ≡ filter g qs
same_pass f g [] same = refl
same_pass f g (q ∷ qs) same =
    ap (λ (b : Bool). cond b (q ∷ filter f qs) (filter f qs)) (same q)
    ∙ ap (λ (rest : List PeerNo). cond (g q) (q ∷ rest) rest) (same_pass f g qs same)

pub returns-in_ok-receivers-in-Some : goal.returns-in_ok-receivers-in-Some
returns-in_ok-receivers-in-Some c = λ L agrees.
    let t = c.args.topic.now in
    c.in_ok-receivers-in-Some.ensures L agrees
    ∙ same_pass (λ q. up L q && has c.in-Some.set.now q) (λ q. up L q && on L q t) (links_of (peer_with c.args.known.now.setup))
    (λ q. ap (λ (b : Bool). up L q && b) (c.in-Some.ensures.some L q agrees.listeners))

pub returns-in-None : goal.returns-in-None
returns-in-None c = λ L agrees.
    let t = c.args.topic.now in
    c.new.ensures.items
    ∙ sym (none_pass (λ q. up L q && on L q t) (links_of (peer_with c.args.known.now.setup)) (λ q. and_false (up L q) (on L q t) (c.in-None.ensures.none L q agrees.listeners)))
