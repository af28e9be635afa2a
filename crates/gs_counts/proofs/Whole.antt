-- Each happening stands at one peer at most, in one round and over one link: so the rows make up the whole.
use Rattle.std.proofs.Common.{◌≡◌, ◌≤◌, ◌<◌, ℕ, zero, suc, ◌+◌, Bool, true, false, nat_eq, if◌then◌else◌, length, List, [], ◌∷◌, filter, map, refl, sym, ap, ap₂, subst, ◌∙◌, arith}
use Rattle.std.specs.Prelude.{◌&&◌, Option, None, Some}
use Rattle.std.specs.List.{flat_map, range_with_len, sum_by}
use Rattle.std.proofs.lemmas.Bool.Decides.{nat_tests}
use Rattle.std.proofs.lemmas.List.Sums.{sum_by-append, sum_by-cons}
use Rattle.gs_base.specs.declared.names.PeerNo.{PeerNo}
use Rattle.gs_base.specs.Names.{same_peer}
use Rattle.gs_plan.specs.declared.plan.Plan.{Plan}
use Rattle.gs_plan.specs.Plans.{are_joined}
use Rattle.gs_seats.specs.Rounds.{neighbours, numbers, peer_no}
use Rattle.gs_counts.specs.declared.happening.Happening.{Happening}
use Rattle.gs_counts.specs.Standing.{goes_over, is_at, is_in, link_of, round_at}
use Rattle.gs_counts.specs.Sums.{MakeUp, linked}
use Rattle.gs_counts.proofs.Parts.{make_up, one_if}

-- ---- one number of several

abbrev equals : ℕ → ℕ → ℕ
equals key n = one_if (nat_eq key n)

apart : (j r : ℕ) → j < r → nat_eq j r ≡ false
apart j r below = grind (arith, nat_tests)

-- a number below all of these is none of them
below_all : (key a n : ℕ) → key < a → sum_by (equals key) (range_with_len a n) ≡ 0
below_all key a zero low = refl
below_all key a (suc n) low =
    sum_by-cons (equals key) a (range_with_len (a + 1) n)
    ∙ ap₂ (λ (b : Bool) (m : ℕ). one_if b + m) (apart key a low) (below_all key (a + 1) n (omega (arith, low)))

pub number_once : (key a n : ℕ) → sum_by (equals key) (range_with_len a n) ≤ 1
number_once key a zero = omega arith
number_once key a (suc n) = by (nat_eq key a) refl (number_once key (a + 1) n)
  where
    first : sum_by (equals key) (range_with_len a (suc n)) ≡ equals key a + sum_by (equals key) (range_with_len (a + 1) n)
    first = sum_by-cons (equals key) a (range_with_len (a + 1) n)

    by : (b : Bool) → nat_eq key a ≡ b → sum_by (equals key) (range_with_len (a + 1) n) ≤ 1 → sum_by (equals key) (range_with_len a (suc n)) ≤ 1
    by true is rest =
        let same : key < a + 1 = grind (arith, nat_tests, is) in
        let one : equals key a ≡ 1 = ap one_if is in
        let none = below_all key (a + 1) n same in
        omega (arith, first, one, none)
    by false is rest = let zero_here : equals key a ≡ 0 = ap one_if is in omega (arith, first, zero_here, rest)

-- a number of a peer is one of several once at most
over_peers : (f : PeerNo → ℕ) (ns : List ℕ) → sum_by f (map peer_no ns) ≡ sum_by (λ n. f (peer_no n)) ns
over_peers f [] = refl
over_peers f (n ∷ ns) =
    sum_by-cons f (peer_no n) (map peer_no ns)
    ∙ ap (λ (m : ℕ). f (peer_no n) + m) (over_peers f ns)
    ∙ sym (sum_by-cons (λ (k : ℕ). f (peer_no k)) n ns)

pub peers_whole : (plan : Plan) (hs : List Happening) → MakeUp is_at (numbers plan) hs
peers_whole plan hs =
    make_up is_at (numbers plan)
    (λ h. subst (λ (n : ℕ). n ≤ 1) (sym (over_peers (λ p. one_if (is_at p h)) (range_with_len 0 (length plan.peers)))) (number_once h.peer.0 0 (length plan.peers))) hs

pub rounds_whole : (round_ms count : ℕ) (hs : List Happening) → MakeUp (is_in round_ms) (range_with_len 0 count) hs
rounds_whole round_ms count hs = make_up (is_in round_ms) (range_with_len 0 count) (λ h. number_once (round_at round_ms h.at) 0 count) hs

-- ---- links

-- how often a link is one of these
abbrev hits : Option (PeerNo × PeerNo) → List (PeerNo × PeerNo) → ℕ
hits link xs = sum_by (λ x. one_if (goes_over x.0 x.1 link)) xs

hits_none : (xs : List (PeerNo × PeerNo)) → hits None xs ≡ 0
hits_none [] = refl
hits_none (x ∷ xs) =
    let first = sum_by-cons (λ (y : PeerNo × PeerNo). one_if (goes_over y.0 y.1 None)) x xs in
    let others = hits_none xs in
    omega (arith, first, others)

fewer : (f : PeerNo → ℕ) (g : PeerNo → Bool) (qs : List PeerNo) → sum_by f (filter g qs) ≤ sum_by f qs
fewer f g [] = omega arith
fewer f g (q ∷ qs) = by (g q) (sum_by-cons f q qs) (sum_by-cons f q (filter g qs)) (fewer f g qs)
  where
    by : (b : Bool) → sum_by f (q ∷ qs) ≡ f q + sum_by f qs → sum_by f (q ∷ filter g qs) ≡ f q + sum_by f (filter g qs) → sum_by f (filter g qs) ≤ sum_by f qs → sum_by f (if b then q ∷ filter g qs else filter g qs) ≤ sum_by f (q ∷ qs)
    by true all some less = omega (arith, all, some, less)
    by false all some less = omega (arith, all, less)

-- those from one peer
from_one : (a b p : PeerNo) (qs : List PeerNo) → hits (Some (a, b)) (map (λ q. (p, q)) qs) ≡ (if same_peer a p then sum_by (λ q. one_if (same_peer b q)) qs else 0)
from_one a b p [] = by (same_peer a p)
  where
    by : (c : Bool) → hits (Some (a, b)) [] ≡ (if c then sum_by (λ q. one_if (same_peer b q)) [] else 0)
    by true = refl
    by false = refl
from_one a b p (q ∷ qs) =
    sum_by-cons (λ (x : PeerNo × PeerNo). one_if (goes_over x.0 x.1 (Some (a, b)))) (p, q) (map (λ r. (p, r)) qs)
    ∙ ap (λ (m : ℕ). one_if (same_peer a p && same_peer b q) + m) (from_one a b p qs)
    ∙ by (same_peer a p) (sum_by-cons (λ (r : PeerNo). one_if (same_peer b r)) q qs)
  where
    by : (c : Bool) → sum_by (λ r. one_if (same_peer b r)) (q ∷ qs) ≡ one_if (same_peer b q) + sum_by (λ r. one_if (same_peer b r)) qs → one_if (c && same_peer b q) + (if c then sum_by (λ r. one_if (same_peer b r)) qs else 0) ≡ (if c then sum_by (λ r. one_if (same_peer b r)) (q ∷ qs) else 0)
    by true all = sym all
    by false all = refl

links_once : (plan : Plan) (a b : PeerNo) (ns : List ℕ) → hits (Some (a, b)) (flat_map (λ p. map (λ q. (p, q)) (neighbours plan p)) (map peer_no ns)) ≤ sum_by (equals a.0) ns
links_once plan a b [] = omega arith
links_once plan a b (n ∷ ns) =
    let both = sum_by-append (λ (x : PeerNo × PeerNo). one_if (goes_over x.0 x.1 (Some (a, b)))) (map (λ q. (peer_no n, q)) (neighbours plan (peer_no n))) (flat_map (λ p. map (λ q. (p, q)) (neighbours plan p)) (map peer_no ns)) in
    let here = at_most (same_peer a (peer_no n)) (from_one a b (peer_no n) (neighbours plan (peer_no n))) in
    let rest = links_once plan a b ns in
    let all = sum_by-cons (equals a.0) n ns in
    omega (arith, both, here, rest, all)
  where
    some : sum_by (λ q. one_if (same_peer b q)) (neighbours plan (peer_no n)) ≤ 1
    some =
        let less = fewer (λ q. one_if (same_peer b q)) (are_joined plan.dials (peer_no n)) (numbers plan) in
        let once = number_once b.0 0 (length plan.peers) in
        let same = over_peers (λ q. one_if (same_peer b q)) (range_with_len 0 (length plan.peers)) in
        omega (arith, less, once, same)

    at_most : (c : Bool) → hits (Some (a, b)) (map (λ q. (peer_no n, q)) (neighbours plan (peer_no n))) ≡ (if c then sum_by (λ q. one_if (same_peer b q)) (neighbours plan (peer_no n)) else 0) → hits (Some (a, b)) (map (λ q. (peer_no n, q)) (neighbours plan (peer_no n))) ≤ one_if c
    at_most true is = omega (arith, is, some)
    at_most false is = omega (arith, is)

pub links_whole : (plan : Plan) (hs : List Happening) → MakeUp (λ x h. goes_over x.0 x.1 (link_of h)) (linked plan) hs
links_whole plan hs = make_up (λ (x : PeerNo × PeerNo) (h : Happening). goes_over x.0 x.1 (link_of h)) (linked plan) (λ h. by (link_of h)) hs
  where
    by : (link : Option (PeerNo × PeerNo)) → hits link (linked plan) ≤ 1
    by None = let none = hits_none (linked plan) in omega (arith, none)
    by (Some (a, b)) =
        let few = links_once plan a b (range_with_len 0 (length plan.peers)) in
        let once = number_once a.0 0 (length plan.peers) in
        omega (arith, few, once)
