-- Whom the dials of a plan join a peer to, one dial after the other: each neighbour, and once.
use Rattle.std.proofs.Common.{◌≡◌, ◌<◌, ℕ, suc, Bool, true, false, ◌&&◌, ◌||◌, if◌then◌else◌, List, [], ◌∷◌, ◌++◌, length, refl, sym, subst₂, ◌∙◌, true≢false, arith, inl, inr, ap}
use Rattle.std.specs.List.{flat_map, list_any, AllPairs, AllByRecursion, IsDistinct}
use Rattle.std.proofs.lemmas.Bool.{and_from, both_ways, or_left, or_right}
use Rattle.std.proofs.lemmas.List.Elements.{recursion_from_All}
use Rattle.std.proofs.lemmas.List.Folds.{list_any-append}
use Rattle.std.proofs.lemmas.Map.Keys.{IsDistinct-cons}
use Rattle.gs_base.specs.declared.names.PeerNo.{PeerNo}
use Rattle.gs_base.specs.Names.{same_peer}
use Rattle.gs_plan.specs.declared.plan.Dial.{Dial}
use Rattle.gs_plan.specs.declared.plan.Plan.{Plan}
use Rattle.gs_plan.specs.Plans.{IsInRange, are_joined, join_the_same, joins}
use Rattle.gs_seats.specs.Rounds.{neighbours}
use Rattle.gs_rules.proofs.Each.{each_weaker}
use Rattle.gs_seats.proofs.Each.{each_of_both}
use Rattle.gs_seats.proofs.Joined.{IsJoined, joins_both, neighbours_joined}
use Rattle.gs_seats.proofs.Truths.{both_of, is_same, one_of, same_self, unless}

-- the other peer of a dial, where it is one of p's
abbrev pub partners_of : PeerNo → Dial → List PeerNo
partners_of p dial = if same_peer dial.from p then dial.to ∷ [] else (if same_peer dial.to p then dial.from ∷ [] else [])

-- those of all dials, in order
abbrev pub partners : List Dial → PeerNo → List PeerNo
partners dials p = flat_map (λ dial. partners_of p dial) dials

-- a dial is from the peer, or to it, or another's
cases : (p : PeerNo) (dial : Dial) (rest : List PeerNo) (P : List PeerNo → Type 0) → (same_peer dial.from p ≡ true → P (dial.to ∷ rest)) → (same_peer dial.to p ≡ true → P (dial.from ∷ rest)) → P rest → P (partners_of p dial ++ rest)
cases p dial rest P from to other = by (same_peer dial.from p) (same_peer dial.to p) refl refl
  where
    by : (a b : Bool) → same_peer dial.from p ≡ a → same_peer dial.to p ≡ b → P ((if a then dial.to ∷ [] else (if b then dial.from ∷ [] else [])) ++ rest)
    by true b is it = from is
    by false true is it = to it
    by false false is it = other

-- ---- each is a neighbour

joins_to : (p : PeerNo) (dial : Dial) → same_peer dial.from p ≡ true → joins p dial.to dial ≡ true
joins_to p dial is = or_left (same_peer dial.from p && same_peer dial.to dial.to) (same_peer dial.from dial.to && same_peer dial.to p) (and_from (same_peer dial.from p) (same_peer dial.to dial.to) is (same_self dial.to))

joins_from : (p : PeerNo) (dial : Dial) → same_peer dial.to p ≡ true → joins p dial.from dial ≡ true
joins_from p dial is = or_right (same_peer dial.from p && same_peer dial.to dial.from) (same_peer dial.from dial.from && same_peer dial.to p) (and_from (same_peer dial.from dial.from) (same_peer dial.to p) (same_self dial.from) is)

partners_are_joined : (dials : List Dial) (p : PeerNo) → AllByRecursion (λ q. are_joined dials p q ≡ true) (partners dials p)
partners_are_joined [] p = tt
partners_are_joined (dial ∷ dials) p =
    let later : AllByRecursion (λ q. are_joined (dial ∷ dials) p q ≡ true) (partners dials p) = each_weaker (λ q. are_joined dials p q ≡ true) (λ q. are_joined (dial ∷ dials) p q ≡ true) (λ q is. or_right (joins p q dial) (are_joined dials p q) is) (partners dials p) (partners_are_joined dials p) in
    cases p dial (partners dials p) (AllByRecursion (λ q. are_joined (dial ∷ dials) p q ≡ true))
    (λ is. (or_left (joins p dial.to dial) (are_joined dials p dial.to) (joins_to p dial is), later))
    (λ is. (or_left (joins p dial.from dial) (are_joined dials p dial.from) (joins_from p dial is), later))
    later

partners_below : (peers : ℕ) (dials : List Dial) (p : PeerNo) → AllByRecursion (λ (dial : Dial). dial.from.0 < peers) dials → AllByRecursion (λ (dial : Dial). dial.to.0 < peers) dials → AllByRecursion (λ (q : PeerNo). q.0 < peers) (partners dials p)
partners_below peers [] p from to = tt
partners_below peers (dial ∷ dials) p from to =
    let later = partners_below peers dials p from.1 to.1 in
    cases p dial (partners dials p) (AllByRecursion (λ (q : PeerNo). q.0 < peers)) (λ is. (to.0, later)) (λ is. (from.0, later)) later

pub partners_joined : (plan : Plan) (p : PeerNo) → IsInRange plan → AllByRecursion (IsJoined plan p) (partners plan.dials p)
partners_joined plan p range =
    each_of_both (λ (q : PeerNo). q.0 < length plan.peers) (λ q. are_joined plan.dials p q ≡ true) (IsJoined plan p) (λ q below is. (below, is)) (partners plan.dials p)
    (partners_below (length plan.peers) plan.dials p (recursion_from_All _ plan.dials range.dials_from) (recursion_from_All _ plan.dials range.dials_to))
    (partners_are_joined plan.dials p)

-- ---- each neighbour is one

is_partner : (p q : PeerNo) (dial : Dial) → joins p q dial ≡ true → list_any (λ (r : PeerNo). same_peer r q) (partners_of p dial) ≡ true
is_partner p q dial joined = by (same_peer dial.from p) (same_peer dial.to p) refl refl joined
  where
    -- a dial of the peer to itself
    itself : same_peer dial.from p ≡ true → same_peer dial.from q ≡ true → same_peer dial.to p ≡ true → same_peer dial.to q ≡ true
    itself from other to = ap (λ (r : PeerNo). same_peer r q) (is_same dial.to p to ∙ sym (is_same dial.from p from)) ∙ other

    by : (a b : Bool) → same_peer dial.from p ≡ a → same_peer dial.to p ≡ b → ((a && same_peer dial.to q) || (same_peer dial.from q && b)) ≡ true → list_any (λ (r : PeerNo). same_peer r q) (if a then dial.to ∷ [] else (if b then dial.from ∷ [] else [])) ≡ true
    by true b is it h = or_left (same_peer dial.to q) false (elim (one_of (true && same_peer dial.to q) (same_peer dial.from q && b) h) [
      | inl there ↦ there
      | inr back ↦
          let ends = both_of (same_peer dial.from q) b back in
          itself is ends.0 (it ∙ ends.1)
    ])
    by false true is it h = or_left (same_peer dial.from q) false (both_of (same_peer dial.from q) true h).0
    by false false is it h = absurd (true≢false (sym (both_of (same_peer dial.from q) false h).1))

pub joined_is_partner : (dials : List Dial) (p q : PeerNo) → are_joined dials p q ≡ true → list_any (λ (r : PeerNo). same_peer r q) (partners dials p) ≡ true
joined_is_partner [] p q joined = joined
joined_is_partner (dial ∷ dials) p q joined =
    let test : PeerNo → Bool = λ r. same_peer r q in
    let all : list_any test (partners_of p dial ++ partners dials p) ≡ (list_any test (partners_of p dial) || list_any test (partners dials p)) = list_any-append test (partners_of p dial) (partners dials p) in
    all ∙ elim (one_of (joins p q dial) (are_joined dials p q) joined) [
      | inl it ↦ or_left (list_any test (partners_of p dial)) (list_any test (partners dials p)) (is_partner p q dial it)
      | inr later ↦ or_right (list_any test (partners_of p dial)) (list_any test (partners dials p)) (joined_is_partner dials p q later)
    ]

pub neighbours_are_partners : (plan : Plan) (p : PeerNo) → AllByRecursion (λ q. list_any (λ (r : PeerNo). same_peer r q) (partners plan.dials p) ≡ true) (neighbours plan p)
neighbours_are_partners plan p =
    each_weaker (IsJoined plan p) (λ q. list_any (λ (r : PeerNo). same_peer r q) (partners plan.dials p) ≡ true) (λ q joined. joined_is_partner plan.dials p q joined.1) (neighbours plan p) (neighbours_joined plan p)

-- ---- none stands twice

-- a later dial joins the peer to another one
others_apart : (x : Dial) (p q : PeerNo) (dials : List Dial) → joins p q x ≡ true → AllByRecursion (λ y. join_the_same y x ≡ false) dials → AllByRecursion (λ r. same_peer q r ≡ false) (partners dials p)
others_apart x p q [] joined differ = tt
others_apart x p q (y ∷ dials) joined differ =
    let later = others_apart x p q dials joined differ.1 in
    cases p y (partners dials p) (AllByRecursion (λ r. same_peer q r ≡ false))
    (λ is. (unless (same_peer q y.to) (λ it. both_ways (joins y.from y.to x) differ.0 (subst₂ (λ (a b : PeerNo). joins a b x ≡ true) (sym (is_same y.from p is)) (is_same q y.to it) joined)), later))
    (λ is. (unless (same_peer q y.from) (λ it. both_ways (joins y.from y.to x) differ.0 (subst₂ (λ (a b : PeerNo). joins a b x ≡ true) (is_same q y.from it) (sym (is_same y.to p is)) (joins_both x q p ∙ joined))), later))
    later

pub partners_apart : (dials : List Dial) (p : PeerNo) → AllPairs (λ x y. join_the_same y x ≡ false) dials → IsDistinct same_peer (partners dials p)
unfolding IsDistinct
partners_apart [] p differ = tt
partners_apart (dial ∷ dials) p differ =
    let first : AllByRecursion (λ y. join_the_same y dial ≡ false) dials = recursion_from_All (λ y. join_the_same y dial ≡ false) dials (λ k d within. differ 0 (suc k) d (omega arith) (omega (arith, within))) in
    let later : IsDistinct same_peer (partners dials p) = partners_apart dials p (λ i j d before within. differ (suc i) (suc j) d (omega (arith, before)) (omega (arith, within))) in
    cases p dial (partners dials p) (IsDistinct same_peer)
    (λ is. IsDistinct-cons same_peer dial.to (partners dials p) (others_apart dial p dial.to dials (joins_to p dial is) first) later)
    (λ is. IsDistinct-cons same_peer dial.from (partners dials p) (others_apart dial p dial.from dials (joins_from p dial is) first) later)
    later
