-- The peer's own topics: they are those that it is subscribed to, ascending, and each of them is short.
use Rattle.std.proofs.Common.{◌≡◌, ◌≤◌, ℕ, Bool, true, false, if◌then◌else◌, List, [], ◌∷◌, ◌++◌, length, filter, refl, sym, ap, subst, ◌∙◌}
use Rattle.std.specs.Prelude.{◌&&◌, ◌||◌}
use Rattle.std.specs.List.{AllByRecursion, list_any}
use Rattle.std.specs.List.Sorted.{IsStrictlySortedBy}
use Rattle.std.specs.declared.cmp.Ordering.{Ordering}
use Rattle.std.specs.declared.cmp.Ordering.TheVariants.{Less, Equal, Greater}
use Rattle.std.specs.Ordering.{ordering_reverse}
use Rattle.std.specs.Cmp.{IsTotalOrder}
use Rattle.std.specs.Cmp.Lexicographic.{on_texts}
use Rattle.std.specs.FinMap.{nat_cmp-IsAntisymmetric, slice_cmp-IsAntisymmetric}
use Rattle.std.specs.FinMap.Entries.{by_order}
use Rattle.std.proofs.lemmas.List.Folds.{list_any-append}
use Rattle.std.proofs.lemmas.Map.Views.{any-filter_same}
use Rattle.std.proofs.lemmas.Slice.Eq.{bytes_eq-Decides}
use Rattle.gs_base.specs.declared.names.Topic.{Topic}
use Rattle.gs_base.specs.Names.{longest_topic, same_topic}
use Rattle.gs_rules.specs.declared.event.Event.{Event}
use Rattle.gs_rules.specs.declared.event.Event.TheVariants.{Own}
use Rattle.gs_plan.specs.declared.plan.Act.TheVariants.{Subscribe, Unsubscribe}
use Rattle.gs_rules.specs.Peers.{Peer}
use Rattle.gs_rules.specs.Tables.{Entries, ascending, joined, joined_after, known, known_after, own_topics, placed, topic_order}
use Rattle.gs_rules.specs.Owed.{owed}
use Rattle.gs_rules.specs.Legal.{IsNext, Legal}
use Rattle.gs_rules.proofs.Legality.{legal_newest}
use Rattle.gs_rules.proofs.Owed.{opens}

-- ---- a topic that the peer is subscribed to

abbrev pub IsShort : Topic → Type 0
IsShort t = length t.0 ≤ longest_topic

-- topics of the same bytes are one
pub same_are_one : (t u : Topic) → same_topic t u ≡ true → t ≡ u
same_are_one t u is = ap (λ bytes. record { 0 = bytes }) ((bytes_eq-Decides t.0 u.0).0 is)

subscribed_short : (u t : Topic) (same before : Bool) → same_topic u t ≡ same → IsShort u → (before ≡ true → IsShort t) → (if same then true else before) ≡ true → IsShort t
subscribed_short u t true before is short earlier joins = subst IsShort (same_are_one u t is) short
subscribed_short u t false before is short earlier joins = earlier joins

still_joined : (left before : Bool) → (if left then false else before) ≡ true → before ≡ true
still_joined true before joins = absurd cc
still_joined false before joins = joins

short_after : (p : Peer) (L : Entries) (at : ℕ) (event : Event) (t : Topic) → IsNext p L at (owed p L).events event → (joined L t ≡ true → IsShort t) → joined_after t event (joined L t) ≡ true → IsShort t
short_after p L at (Own (Subscribe u)) t next earlier joins = subscribed_short u t (same_topic u t) (joined L t) refl (opens p L at (Own (Subscribe u)) (λ h. h) next).short earlier joins
short_after p L at (Own (Unsubscribe u)) t next earlier joins = earlier (still_joined (same_topic u t) (joined L t) joins)
short_after p L at other t next earlier joins = earlier joins

pub joined_short : (p : Peer) (L : Entries) (t : Topic) → Legal p L → joined L t ≡ true → IsShort t
joined_short p [] t legal joins = absurd cc
joined_short p (e ∷ L) t legal joins = short_after p L e.at.0 e.event t (legal_newest p e L legal).next (joined_short p L t legal.1) joins

-- ---- it was subscribed to once

-- what was known is known
pub still_known : (t u : Topic) (knows : Bool) (before : List Topic) → list_any (same_topic t) before ≡ true → list_any (same_topic t) (if knows then before else before ++ u ∷ []) ≡ true
still_known t u true before is = is
still_known t u false before is = rw (list_any-append (same_topic t) before (u ∷ []), is) refl

-- a topic that the peer subscribes to is known
gets_known : (t : Topic) (knows : Bool) (before : List Topic) → list_any (same_topic t) before ≡ knows → list_any (same_topic t) (if knows then before else before ++ t ∷ []) ≡ true
gets_known t true before is = is
gets_known t false before is = rw (list_any-append (same_topic t) before (t ∷ []), is, (bytes_eq-Decides t.0 t.0).1 refl) refl

known_by : (t u : Topic) (same joins : Bool) (before : List Topic) → same_topic u t ≡ same → (joins ≡ true → list_any (same_topic t) before ≡ true) → (if same then true else joins) ≡ true → list_any (same_topic t) (known_after (Own (Subscribe u)) before) ≡ true
known_by t u true joins before is earlier now =
    subst (λ (v : Topic). list_any (same_topic t) (known_after (Own (Subscribe v)) before) ≡ true) (sym (same_are_one u t is)) (gets_known t (list_any (same_topic t) before) before refl)
known_by t u false joins before is earlier now = still_known t u (list_any (same_topic u) before) before (earlier now)

known_next : (t : Topic) (event : Event) (joins : Bool) (before : List Topic) → (joins ≡ true → list_any (same_topic t) before ≡ true) → joined_after t event joins ≡ true → list_any (same_topic t) (known_after event before) ≡ true
known_next t (Own (Subscribe u)) joins before earlier now = known_by t u (same_topic u t) joins before refl earlier now
known_next t (Own (Unsubscribe u)) joins before earlier now = earlier (still_joined (same_topic u t) joins now)
known_next t other joins before earlier now = earlier now

pub joined_known : (L : Entries) (t : Topic) → joined L t ≡ true → list_any (same_topic t) (known L) ≡ true
joined_known [] t joins = absurd cc
joined_known (e ∷ L) t joins = known_next t e.event (joined L t) (known L) (joined_known L t) joins

-- ---- placed among others

-- what holds of a topic and of each of the others
placed_are : (P : Topic → Type 0) (t : Topic) (us : List Topic) → P t → AllByRecursion P us → AllByRecursion P (placed t us)
placed_are P t [] one all = (one, tt)
placed_are P t (u ∷ us) one all = by (topic_order t u) (placed_are P t us one all.1)
  where
    by : (o : Ordering) → AllByRecursion P (placed t us) → AllByRecursion P (by_order o (t ∷ u ∷ us) (u ∷ us) (u ∷ placed t us))
    by Less rest = (one, all)
    by Equal rest = all
    by Greater rest = (all.0, rest)

pub ascending_are : (P : Topic → Type 0) (ts : List Topic) → AllByRecursion P ts → AllByRecursion P (ascending ts)
ascending_are P [] all = tt
ascending_are P (t ∷ ts) all = placed_are P t (ascending ts) all.0 (ascending_are P ts all.1)

-- the order of topics
order_is_total : IsTotalOrder topic_order
order_is_total = on_texts (λ (t : Topic). t.0)

equal_are_one : (t u : Topic) → topic_order t u ≡ Equal → t ≡ u
equal_are_one t u is = ap (λ bytes. record { 0 = bytes }) (slice_cmp-IsAntisymmetric nat_cmp-IsAntisymmetric t.0 u.0 is)

-- one that comes before the first of others comes before each
comes_before : (t u : Topic) (us : List Topic) → topic_order t u ≡ Less → AllByRecursion (λ v. topic_order u v ≡ Less) us → AllByRecursion (λ v. topic_order t v ≡ Less) us
comes_before t u [] first all = tt
comes_before t u (v ∷ us) first all = (order_is_total.trans t u v first all.0, comes_before t u us first all.1)

placed_sorted : (t : Topic) (us : List Topic) → IsStrictlySortedBy topic_order us → IsStrictlySortedBy topic_order (placed t us)
unfolding IsStrictlySortedBy
placed_sorted t [] h = (tt, tt)
placed_sorted t (u ∷ us) h = by (topic_order t u) refl (placed_sorted t us h.1)
  where
    by : (o : Ordering) → topic_order t u ≡ o → IsStrictlySortedBy topic_order (placed t us) → IsStrictlySortedBy topic_order (by_order o (t ∷ u ∷ us) (u ∷ us) (u ∷ placed t us))
    by Less is rest = ((is, comes_before t u us is h.0), h)
    by Equal is rest = h
    by Greater is rest = (placed_are (λ v. topic_order u v ≡ Less) t us (order_is_total.antisymm u t ∙ ap ordering_reverse is) h.0, rest)

pub ascending_sorted : (ts : List Topic) → IsStrictlySortedBy topic_order (ascending ts)
unfolding IsStrictlySortedBy
ascending_sorted [] = tt
ascending_sorted (t ∷ ts) = placed_sorted t (ascending ts) (ascending_sorted ts)

-- ---- which topics are among them

-- what is found once is found
again : (b c : Bool) → (b || c) ≡ (b || (b || c))
again true c = refl
again false c = refl

changed : (a b c : Bool) → (a || (b || c)) ≡ (b || (a || c))
changed true true c = refl
changed true false c = refl
changed false b c = refl

placed_any : (t u : Topic) (us : List Topic) → list_any (same_topic t) (placed u us) ≡ (same_topic t u || list_any (same_topic t) us)
placed_any t u [] = refl
placed_any t u (v ∷ us) = by (topic_order u v) refl (placed_any t u us)
  where
    by : (o : Ordering) → topic_order u v ≡ o → list_any (same_topic t) (placed u us) ≡ (same_topic t u || list_any (same_topic t) us) → list_any (same_topic t) (by_order o (u ∷ v ∷ us) (v ∷ us) (v ∷ placed u us)) ≡ (same_topic t u || list_any (same_topic t) (v ∷ us))
    by Less is rest = refl
    by Equal is rest = again (same_topic t v) (list_any (same_topic t) us) ∙ ap (λ (w : Topic). same_topic t w || list_any (same_topic t) (v ∷ us)) (sym (equal_are_one u v is))
    by Greater is rest = ap (λ b. same_topic t v || b) rest ∙ changed (same_topic t v) (same_topic t u) (list_any (same_topic t) us)

pub ascending_any : (t : Topic) (ts : List Topic) → list_any (same_topic t) (ascending ts) ≡ list_any (same_topic t) ts
ascending_any t [] = refl
ascending_any t (u ∷ ts) = placed_any t u (ascending ts) ∙ ap (λ b. same_topic t u || b) (ascending_any t ts)

-- what is subscribed to is known, so that both hold where the first does
both_by : (joins knows : Bool) → (joins ≡ true → knows ≡ true) → (joins && knows) ≡ joins
both_by true knows known = known refl
both_by false knows known = refl

-- ---- the peer's own topics

-- what holds of all that passes a test holds of each that passes
pub passing_are : {X : Type 0} (P : X → Type 0) (test : X → Bool) (xs : List X) → ((x : X) → test x ≡ true → P x) → AllByRecursion P (filter test xs)
passing_are P test [] each = tt
passing_are P test (x ∷ xs) each = by (test x) refl (passing_are P test xs each)
  where
    by : (passes : Bool) → test x ≡ passes → AllByRecursion P (filter test xs) → AllByRecursion P (filter test (x ∷ xs))
    by true is rest = rw is (each x is, rest)
    by false is rest = rw is rest

pub own_ascend : (L : Entries) → IsStrictlySortedBy topic_order (own_topics L)
own_ascend L = ascending_sorted (filter (joined L) (known L))

pub own_are_joined : (L : Entries) (t : Topic) → list_any (same_topic t) (own_topics L) ≡ joined L t
own_are_joined L t =
    ascending_any t (filter (joined L) (known L))
    ∙ any-filter_same (same_topic t) (joined L) (joined L t) (λ u is. ap (joined L) (sym (same_are_one t u is))) (known L)
    ∙ both_by (joined L t) (list_any (same_topic t) (known L)) (joined_known L t)
