-- Members of a mesh: which are better, which are among given peers, and how many.
use Rattle.std.proofs.Common.{◌≡◌, ℕ, ◌<◌, nat_lt, Bool, true, false, cond, List, [], ◌∷◌, length, min, filter, refl, sym, ap, subst, ◌∙◌, inl, inr, arith}
use Rattle.std.specs.Prelude.{◌||◌, ◌&&◌, ◌≤ℤ◌, Contains, All, AllPairs, pos}
use Rattle.std.specs.List.{AllByRecursion, IsDistinct}
use Rattle.std.specs.Set.{is_member}
use Rattle.std.proofs.lemmas.Bool.Decides.{nat_tests}
use Rattle.std.proofs.lemmas.Int.{ints}
use Rattle.std.proofs.lemmas.List.{length-map, get_or-map}
use Rattle.std.proofs.lemmas.List.Elements.{All-contains_itself, All-filter, All-map, All-weaker, filter_passes}
use Rattle.std.proofs.lemmas.List.Kept.{AllPairs-filter}
use Rattle.std.proofs.lemmas.Map.Keys.{IsDistinct-cons, IsDistinct-head, IsDistinct-tail}
use Rattle.gs_mesh.specs.declared.members.Member.{Member}
use Rattle.gs_base.specs.declared.names.PeerNo.{PeerNo}
use Rattle.gs_base.specs.Names.{same_peer}
use Rattle.gs_params.specs.Picks.{IsAscending}
use Rattle.gs_mesh.specs.Cuts.{best_by_score, is_better, better_ones, peers_of}
use Rattle.gs_params.proofs.Picking.{same_peer_equiv, distinct_from_ascending}
use Rattle.gs_mesh.proofs.Ranks.{first_or_later, of_element, rank_rises, length_lowest}

-- ---- who is better

never_better : (m : Member) → is_better m m ≡ false
never_better m = grind (arith, ints, nat_tests)

better_further : (a b c : Member) → is_better a b ≡ true → is_better b c ≡ true → is_better a c ≡ true
better_further a b c h k = grind (arith, ints, nat_tests)

either_better : (a b : Member) → same_peer a.peer b.peer ≡ false → is_better a b ≡ false → is_better b a ≡ true
either_better a b h k = grind (arith, ints, nat_tests)

-- who is not better does not score higher
pub not_higher : (a b : Member) → is_better b a ≡ false → b.score ≤ℤ a.score
not_higher a b h = grind (arith, ints, nat_tests)

-- ---- members and their peers

abbrev same_member : Member → Member → Bool
same_member a b = same_peer a.peer b.peer

apart_members : (p : PeerNo) (members : List Member) → AllByRecursion (λ q. same_peer p q ≡ false) (peers_of members) → AllByRecursion (λ m. same_peer p m.peer ≡ false) members
apart_members p [] h = tt
apart_members p (m ∷ members) h = (h.0, apart_members p members h.1)

distinct_members : (members : List Member) → IsDistinct same_peer (peers_of members) → IsDistinct same_member members
unfolding IsDistinct
distinct_members [] d = d
distinct_members (m ∷ members) d = IsDistinct-cons same_member m members (apart_members m.peer members (IsDistinct-head same_peer m.peer (peers_of members) d)) (distinct_members members (IsDistinct-tail same_peer m.peer (peers_of members) d))

peers_if : (b : Bool) (m : Member) (members : List Member) → peers_of (cond b (m ∷ members) members) ≡ cond b (m.peer ∷ peers_of members) (peers_of members)
peers_if true m members = refl
peers_if false m members = refl

-- what a test of peers keeps of the members, it keeps of their peers
pub peers_of_kept : (test : PeerNo → Bool) (members : List Member) → peers_of (filter (λ m. test m.peer) members) ≡ filter test (peers_of members)
peers_of_kept test [] = refl
peers_of_kept test (m ∷ members) = peers_if (test m.peer) m _ ∙ ap (λ peers. cond (test m.peer) (m.peer ∷ peers) peers) (peers_of_kept test members)

pub length_of_kept : (test : PeerNo → Bool) (members : List Member) → length (filter (λ m. test m.peer) members) ≡ length (filter test (peers_of members))
length_of_kept test members = sym (length-map (filter (λ m. test m.peer) members) (λ m. m.peer)) ∙ ap length (peers_of_kept test members)

-- ---- those that pass a test

-- who passes stands there, and passes
pub who_passes : (test : Member → Bool) (members : List Member) → All (λ m. Contains members m × (test m ≡ true)) (filter test members)
who_passes test members = λ k d within. (All-filter test (Contains members) members (All-contains_itself members) k d within, filter_passes test members k d within)

pub its_peer : (members : List Member) (m : Member) → Contains members m → Contains (peers_of members) m.peer
its_peer members m (k, within, e) = (k, omega (arith, length-map members (λ (n : Member). n.peer)), get_or-map (λ (n : Member). n.peer) members k m m.peer within ∙ ap (λ (n : Member). n.peer) e)

-- their peers are among those of all
pub kept_inside : (test : Member → Bool) (members : List Member) → All (Contains (peers_of members)) (peers_of (filter test members))
kept_inside test members = All-map (Contains (peers_of members)) (λ (m : Member). m.peer) (filter test members) (All-weaker (λ m. Contains members m × (test m ≡ true)) (λ m. Contains (peers_of members) m.peer) (λ m h. its_peer members m h.0) (filter test members) (who_passes test members))

abbrev IsRising : List Member → Type 0
IsRising members = AllPairs (λ a b. a.peer.0 < b.peer.0) members

rising_members : (members : List Member) → IsAscending (peers_of members) → IsRising members
rising_members members up = λ i j d before within.
    let long = length-map members (λ (m : Member). m.peer) in
    let h = up i j d.peer before (omega arith) in
    let first = get_or-map (λ (m : Member). m.peer) members i d d.peer (omega arith) in
    let second = get_or-map (λ (m : Member). m.peer) members j d d.peer within in
    rw (first, second) at h

ascending_peers : (members : List Member) → IsRising members → IsAscending (peers_of members)
ascending_peers members up = λ i j d before within.
    let long = length-map members (λ (m : Member). m.peer) in
    let e : Member = record { peer = d; score = pos 0; outbound = false } in
    rw (get_or-map (λ (m : Member). m.peer) members i e d (omega arith), get_or-map (λ (m : Member). m.peer) members j e d (omega arith)) (up i j e before (omega arith))

-- where all members ascend by number, so do those that pass a test
pub ascending_kept : (test : Member → Bool) (members : List Member) → IsAscending (peers_of members) → IsAscending (peers_of (filter test members))
ascending_kept test members up = ascending_peers (filter test members) (AllPairs-filter (λ (a b : Member). a.peer.0 < b.peer.0) test members (rising_members members up))

member_if : (b : Bool) (q : PeerNo) (peers : List PeerNo) (p : PeerNo) → is_member same_peer (cond b (q ∷ peers) peers) p ≡ ((b && same_peer p q) || is_member same_peer peers p)
member_if true q peers p = refl
member_if false q peers p = refl

never_there : (b c : Bool) → ((b && false) || c) ≡ c
never_there true c = refl
never_there false c = refl

always_there : (b : Bool) → ((b && true) || false) ≡ b
always_there true = refl
always_there false = refl

absent : (test : Member → Bool) (members : List Member) (p : PeerNo) → AllByRecursion (λ m. same_peer p m.peer ≡ false) members → is_member same_peer (peers_of (filter test members)) p ≡ false
absent test [] p h = refl
absent test (m ∷ members) p h = rw (peers_if (test m) m (filter test members), member_if (test m) m.peer (peers_of (filter test members)) p, h.0) (never_there (test m) _ ∙ absent test members p h.1)

its_own : (test : Member → Bool) (m : Member) (members : List Member) → AllByRecursion (λ n. same_peer m.peer n.peer ≡ false) members → is_member same_peer (peers_of (filter test (m ∷ members))) m.peer ≡ test m
its_own test m members apart = rw (peers_if (test m) m (filter test members), member_if (test m) m.peer (peers_of (filter test members)) m.peer, same_peer_equiv.refl m.peer, absent test members m.peer apart) (always_there (test m))

another : (test : Member → Bool) (m : Member) (members : List Member) (n : Member) → same_peer m.peer n.peer ≡ false → is_member same_peer (peers_of (filter test (m ∷ members))) n.peer ≡ is_member same_peer (peers_of (filter test members)) n.peer
another test m members n apart = rw (peers_if (test m) m (filter test members), member_if (test m) m.peer (peers_of (filter test members)) n.peer, same_peer_equiv.symm n.peer m.peer, apart) (never_there (test m) _)

passes_if : (test : Member → Bool) (members : List Member) (n : Member) → IsDistinct same_member members → Contains members n → is_member same_peer (peers_of (filter test members)) n.peer ≡ test n
passes_if test [] n d (k, within, e) = absurd (omega arith)
passes_if test (m ∷ members) n d h =
    let apart = IsDistinct-head same_member m members d in
    elim (first_or_later m members n h) [
      | inl e ↦ subst (λ (x : Member). is_member same_peer (peers_of (filter test (m ∷ members))) x.peer ≡ test x) e (its_own test m members apart)
      | inr later ↦ another test m members n (of_element (λ (x : Member). same_peer m.peer x.peer ≡ false) members n apart later) ∙ passes_if test members n (IsDistinct-tail same_member m members d) later
    ]

-- ---- the best

pub length_best : (n : ℕ) (members : List Member) → IsAscending (peers_of members) → length (best_by_score n members) ≡ min n (length members)
unfolding best_by_score
length_best n members up = length-map (filter (λ m. nat_lt (better_ones members m) n) members) (λ (m : Member). m.peer) ∙ length_lowest is_better same_member never_better better_further either_better members n (distinct_members members (distinct_from_ascending (peers_of members) up))

pub best_inside : (n : ℕ) (members : List Member) → All (Contains (peers_of members)) (best_by_score n members)
unfolding best_by_score
best_inside n members = kept_inside (λ m. nat_lt (better_ones members m) n) members

pub best_ascending : (n : ℕ) (members : List Member) → IsAscending (peers_of members) → IsAscending (best_by_score n members)
unfolding best_by_score
best_ascending n members up = ascending_kept (λ m. nat_lt (better_ones members m) n) members up

is_best_if : (n : ℕ) (members : List Member) (m : Member) → IsAscending (peers_of members) → Contains members m → is_member same_peer (best_by_score n members) m.peer ≡ nat_lt (better_ones members m) n
unfolding best_by_score
is_best_if n members m up here = passes_if (λ k. nat_lt (better_ones members k) n) members m (distinct_members members (distinct_from_ascending (peers_of members) up)) here

by_ranks : (n : ℕ) (members : List Member) (a b : Member) → nat_lt (better_ones members a) n ≡ true → nat_lt (better_ones members b) n ≡ false → (r : Bool) → is_better b a ≡ r → r ≡ false
by_ranks n members a b h k false e = refl
by_ranks n members a b h k true e = let rises = rank_rises is_better same_member never_better better_further either_better members b a e in absurd (grind (arith, nat_tests))

-- nobody who is not among the best scores higher than one of them
pub best_are_highest : (n : ℕ) (members : List Member) → IsAscending (peers_of members) → (a b : Member) → Contains members a → Contains members b → is_member same_peer (best_by_score n members) a.peer ≡ true → is_member same_peer (best_by_score n members) b.peer ≡ false → b.score ≤ℤ a.score
best_are_highest n members up a b a_here b_here h k = not_higher a b (by_ranks n members a b (sym (is_best_if n members a up a_here) ∙ h) (sym (is_best_if n members b up b_here) ∙ k) (is_better b a) refl)
