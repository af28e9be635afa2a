-- No publisher is a subscriber of its message.
use Rattle.std.proofs.Common.{◌≡◌, ◌∙◌, ◌&&◌, ◌||◌, ℕ, Bool, true, false, not, cond, eqb, leb, List, [], ◌∷◌, map, refl, sym, ap, inl, inr}
use Rattle.std.specs.List.{filter, list_any, AllByRecursion}
use Rattle.std.proofs.lemmas.Bool.{cond_both, eq-eqb, eqb-true, false≢true, cases_Bool, or_right, or_left, and_from}
use Rattle.std.proofs.lemmas.Cmp.{nat_list_eq_equiv}
use Rattle.gs_base.specs.declared.names.PeerNo.{PeerNo}
use Rattle.gs_base.specs.Names.{same_peer}
use Rattle.gs_plan.specs.declared.plan.Plan.{Plan}
use Rattle.gs_report.specs.declared.report.Report.{Report}
use Rattle.gs_reach.specs.declared.listed.Appearance.{Appearance}
use Rattle.gs_reach.specs.declared.listed.Arrival.{Arrival}
use Rattle.gs_reach.specs.declared.listed.Listed.{Listed}
use Rattle.gs_reach.specs.declared.messages.MessageReach.{MessageReach}
use Rattle.gs_reach.specs.declared.pairs.Pair.{Pair}
use Rattle.gs_reach.specs.Listed.{listed}
use Rattle.gs_reach.specs.Messages.{are_of_one, arrival_of, firsts, in_order, is_subscriber, message_reach, messages, numbers_of, pairs_of, publishes, rounds_to, same_message}
use Rattle.gs_reach.specs.Order.{ascending, placed}

-- ---- what holds of each element of a list holds of each one that is kept, in whatever order

module _ {X : Type 0} (P : X → Type 0) where
  kept_all : (p : X → Bool) (xs : List X) → AllByRecursion P xs → AllByRecursion P (filter p xs)
  kept_all p [] all = tt
  kept_all p (x ∷ xs) all =
      cond_both (p x) (x ∷ filter p xs) (filter p xs) (AllByRecursion P) (λ _. (all.0, kept_all p xs all.1)) (λ _. kept_all p xs all.1)

  placed_all : (number : X → ℕ) (x : X) (ys : List X) → P x → AllByRecursion P ys → AllByRecursion P (placed number x ys)
  placed_all number x [] one all = (one, tt)
  placed_all number x (y ∷ ys) one all =
      cond_both (leb (number x) (number y)) (x ∷ y ∷ ys) (y ∷ placed number x ys) (AllByRecursion P)
      (λ _. (one, all)) (λ _. (all.0, placed_all number x ys one all.1))

  ascending_all : (number : X → ℕ) (xs : List X) → AllByRecursion P xs → AllByRecursion P (ascending number xs)
  ascending_all number [] all = tt
  ascending_all number (x ∷ xs) all = placed_all number x (ascending number xs) all.0 (ascending_all number xs all.1)

  weaker : (Q : X → Type 0) → ((x : X) → P x → Q x) → (xs : List X) → AllByRecursion P xs → AllByRecursion Q xs
  weaker Q h [] all = tt
  weaker Q h (x ∷ xs) all = (h x all.0, weaker Q h xs all.1)

firsts_all : (P : Appearance → Type 0) (xs : List Appearance) → AllByRecursion P xs → AllByRecursion P (firsts xs)
firsts_all P [] all = tt
firsts_all P (x ∷ xs) all = (all.0, kept_all P (λ y. not (same_message x y)) (firsts xs) (firsts_all P xs all.1))

-- ---- each publication is published by its peer

one_more : (f : Arrival → Bool) (b : Bool) (x : Appearance) (xs : List Appearance)
    → list_any f (map arrival_of (cond b (x ∷ xs) xs)) ≡ ((b && f (arrival_of x)) || list_any f (map arrival_of xs))
one_more f true x xs = refl
one_more f false x xs = refl

publishes_more : (y : Appearance) (ys : List Appearance) (m : Appearance) (q : PeerNo)
    → publishes (y ∷ ys) m q ≡ ((are_of_one m y && (eqb y.at.0 m.at.0 && same_peer y.peer q)) || publishes ys m q)
publishes_more y ys m q =
    one_more (λ (x : Arrival). eqb x.at.0 m.at.0 && same_peer x.peer q) (are_of_one m y) y (filter (are_of_one m) ys)

abbrev IsPublished : List Appearance → Appearance → Type 0
IsPublished all m = publishes all m m.peer ≡ true

itself : (y : Appearance) → (are_of_one y y && (eqb y.at.0 y.at.0 && same_peer y.peer y.peer)) ≡ true
itself y =
    and_from (are_of_one y y) _ (and_from _ _ (nat_list_eq_equiv.refl y.topic.0) (nat_list_eq_equiv.refl y.payload))
    (and_from (eqb y.at.0 y.at.0) (same_peer y.peer y.peer) (eq-eqb y.at.0 y.at.0 refl) (eq-eqb y.peer.0 y.peer.0 refl))

published_all : (all : List Appearance) → AllByRecursion (IsPublished all) all
published_all [] = tt
published_all (y ∷ ys) = (
  publishes_more y ys y y.peer ∙ or_left _ (publishes ys y y.peer) (itself y),
  weaker (IsPublished ys) (IsPublished (y ∷ ys)) (λ m h. publishes_more y ys m m.peer ∙ or_right _ (publishes ys m m.peer) h) ys (published_all ys),
)

-- ---- so none of its subscribers is that peer

no_subscriber : (b : Bool) (p q : PeerNo) (P : PeerNo → Bool) → P p ≡ true → (not (P q) && b) ≡ true → same_peer q p ≡ false
no_subscriber b p q P is sub = elim (cases_Bool (same_peer q p)) [
  | inl e ↦
      let same = eqb-true q.0 p.0 e in
      let passes : P q ≡ true = ap (λ (n : ℕ). P (record { 0 = n })) same ∙ is in
      absurd (false≢true (sym (ap (λ (t : Bool). not t && b) passes) ∙ sub))
  | inr e ↦ e
]

none_of_pairs : (plan : Plan) (l : Listed) (m : Appearance) (peers : List PeerNo) → IsPublished l.published m
    → AllByRecursion (λ (x : Pair). same_peer x.subscriber m.peer ≡ false) (pairs_of plan l m peers)
none_of_pairs plan l m [] is = tt
none_of_pairs plan l m (q ∷ qs) is = one (is_subscriber plan.dials l m q) refl (none_of_pairs plan l m qs is)
  where
    one : (b : Bool) → is_subscriber plan.dials l m q ≡ b
        → AllByRecursion (λ (x : Pair). same_peer x.subscriber m.peer ≡ false) (pairs_of plan l m qs)
        → AllByRecursion (λ (x : Pair). same_peer x.subscriber m.peer ≡ false)
        (map (λ q. record { subscriber = q; rounds = rounds_to plan l m q }) (cond b (q ∷ filter (is_subscriber plan.dials l m) qs) (filter (is_subscriber plan.dials l m) qs)))
    one true e rest = (no_subscriber _ m.peer q (publishes l.published m) is e, rest)
    one false e rest = rest

none_of_each : (plan : Plan) (l : Listed) (peers : List PeerNo) (ms : List Appearance) → AllByRecursion (IsPublished l.published) ms
    → AllByRecursion (λ (r : MessageReach). AllByRecursion (λ (x : Pair). same_peer x.subscriber r.publication.peer ≡ false) r.pairs)
    (map (message_reach plan l peers) ms)
unfolding message_reach
none_of_each plan l peers [] all = tt
none_of_each plan l peers (m ∷ ms) all = (none_of_pairs plan l m peers all.0, none_of_each plan l peers ms all.1)

pub no_publishers : (plan : Plan) (report : Report)
    → AllByRecursion (λ (r : MessageReach). AllByRecursion (λ (x : Pair). same_peer x.subscriber r.publication.peer ≡ false) r.pairs)
    (messages plan report)
no_publishers plan report =
    let l = listed report.peers.items in
    none_of_each plan l (numbers_of report.peers.items) (in_order (firsts l.published))
    (ascending_all (IsPublished l.published) (λ (x : Appearance). x.at.0) (firsts l.published)
    (firsts_all (IsPublished l.published) l.published (published_all l.published)))
