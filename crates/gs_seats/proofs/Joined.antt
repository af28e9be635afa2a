-- Who is joined to a peer is its neighbour, and the peer is a neighbour of that one.
use Rattle.std.proofs.Common.{◌≡◌, ◌≤◌, ◌<◌, ◌+◌, ℕ, zero, suc, Bool, true, false, ◌&&◌, ◌||◌, cond, List, [], ◌∷◌, length, map, filter, refl, sym, ap₂, subst, ◌∙◌, arith}
use Rattle.std.specs.List.{range_with_len, AllByRecursion}
use Rattle.std.proofs.Math.Bool.{or_comm}
use Rattle.gs_base.specs.declared.names.PeerNo.{PeerNo}
use Rattle.gs_base.specs.Names.{same_peer}
use Rattle.gs_plan.specs.declared.plan.Dial.{Dial}
use Rattle.gs_plan.specs.declared.plan.Plan.{Plan}
use Rattle.gs_plan.specs.Plans.{are_joined, joins}
use Rattle.gs_seats.specs.Rounds.{neighbours, peer_no}

-- whichever of two is named first, a dial joins them or not
pub joins_both : (dial : Dial) (p q : PeerNo) → joins p q dial ≡ joins q p dial
joins_both dial p q = or_comm (same_peer dial.from p && same_peer dial.to q) (same_peer dial.from q && same_peer dial.to p)

-- whichever of two is named first, the dials of a list join them or not
pub joined_both : (dials : List Dial) (p q : PeerNo) → are_joined dials p q ≡ are_joined dials q p
joined_both [] p q = refl
joined_both (dial ∷ dials) p q =
    ap₂ (λ (a b : Bool). a || b) (joins_both dial p q) (joined_both dials p q)

-- ---- neighbours

-- a peer of the plan that is joined to p
abbrev pub IsJoined : Plan → PeerNo → PeerNo → Type 0
IsJoined plan p q = (q.0 < length plan.peers) × (are_joined plan.dials p q ≡ true)

passing : (test : PeerNo → Bool) (a n most : ℕ) → a + n ≤ most → AllByRecursion (λ (q : PeerNo). (q.0 < most) × (test q ≡ true)) (filter test (map peer_no (range_with_len a n)))
passing test a zero most fits = tt
passing test a (suc n) most fits = either (test (peer_no a)) refl (passing test (a + 1) n most (omega (arith, fits)))
  where
    either : (b : Bool) → test (peer_no a) ≡ b → AllByRecursion (λ (q : PeerNo). (q.0 < most) × (test q ≡ true)) (filter test (map peer_no (range_with_len (a + 1) n))) → AllByRecursion (λ (q : PeerNo). (q.0 < most) × (test q ≡ true)) (cond b (peer_no a ∷ filter test (map peer_no (range_with_len (a + 1) n))) (filter test (map peer_no (range_with_len (a + 1) n))))
    either true is h = ((omega (arith, fits), is), h)
    either false is h = h

-- each neighbour is one
pub neighbours_joined : (plan : Plan) (p : PeerNo) → AllByRecursion (IsJoined plan p) (neighbours plan p)
neighbours_joined plan p = passing (are_joined plan.dials p) 0 (length plan.peers) (length plan.peers) (omega arith)

of_passing : (P : PeerNo → Type 0) (test : PeerNo → Bool) (a n k : ℕ) → k < n → test (peer_no (a + k)) ≡ true → AllByRecursion P (filter test (map peer_no (range_with_len a n))) → P (peer_no (a + k))
of_passing P test a zero k below is h = absurd (omega (arith, below))
of_passing P test a (suc n) zero below is h =
    let later : List PeerNo = filter test (map peer_no (range_with_len (a + 1) n)) in
    let here : test (peer_no a) ≡ true = subst (λ (i : ℕ). test (peer_no i) ≡ true) (omega arith) is in
    let all : AllByRecursion P (peer_no a ∷ later) = subst (λ (b : Bool). AllByRecursion P (cond b (peer_no a ∷ later) later)) here h in
    subst (λ (i : ℕ). P (peer_no i)) (omega arith) all.0
of_passing P test a (suc n) (suc k) below is h =
    let there : a + 1 + k ≡ a + suc k = omega arith in
    subst (λ (i : ℕ). P (peer_no i)) there (of_passing P test (a + 1) n k (omega (arith, below)) (subst (λ (i : ℕ). test (peer_no i) ≡ true) (sym there) is) (later (test (peer_no a)) h))
  where
    later : (b : Bool) → AllByRecursion P (cond b (peer_no a ∷ filter test (map peer_no (range_with_len (a + 1) n))) (filter test (map peer_no (range_with_len (a + 1) n)))) → AllByRecursion P (filter test (map peer_no (range_with_len (a + 1) n)))
    later true g = g.1
    later false g = g

-- what holds of each neighbour holds of who is joined
pub of_joined : (P : PeerNo → Type 0) (plan : Plan) (p q : PeerNo) → IsJoined plan p q → AllByRecursion P (neighbours plan p) → P q
of_joined P plan p q joined h =
    let number : 0 + q.0 ≡ q.0 = omega arith in
    subst (λ (i : ℕ). P (peer_no i)) number (of_passing P (are_joined plan.dials p) 0 (length plan.peers) q.0 joined.0 (subst (λ (i : ℕ). are_joined plan.dials p (peer_no i) ≡ true) (sym number) joined.1) h)

-- where the one is a neighbour of the other, so is the other of the one
pub joined_back : (plan : Plan) (p q : PeerNo) → p.0 < length plan.peers → IsJoined plan p q → IsJoined plan q p
joined_back plan p q below joined = (below, joined_both plan.dials q p ∙ joined.1)
