-- What is kept is gossiped: it stands in the order in which messages were kept, passes as one of its topic, and is
-- among the last that fit one offer, where no more stand after it.
use Rattle.std.proofs.Common.{◌≡◌, ◌≤◌, ◌<◌, ℕ, zero, suc, ◌-◌, Bool, true, false, ◌||◌, not, if◌then◌else◌, is_some, List, [], ◌∷◌, ◌++◌, length, filter, drop, Option, Some, None, refl, sym, ap, subst, ◌∙◌, arith}
use Rattle.std.specs.Prelude.{nat_lt}
use Rattle.std.specs.List.{IsAmong, list_any}
use Rattle.std.proofs.lemmas.Bool.{and_from, lt-ltb, not_from_false, or_left, or_right}
use Rattle.std.proofs.lemmas.Cmp.{nat_list_eq_equiv}
use Rattle.std.proofs.lemmas.List.{length-append}
use Rattle.std.proofs.lemmas.List.Folds.{list_any-append}
use Rattle.std.proofs.lemmas.Map.Views.{Contains-from_any, any-filter_same}
use Rattle.std.proofs.lemmas.Slice.Eq.{bytes_eq-Decides}
use Rattle.gs_base.specs.declared.names.Topic.{Topic}
use Rattle.gs_base.specs.declared.names.MsgId.{MsgId}
use Rattle.gs_base.specs.declared.mark.Mark.{Mark}
use Rattle.gs_base.specs.declared.mark.Mark.TheVariants.{Cached}
use Rattle.gs_base.specs.Names.{same_id, same_topic}
use Rattle.gs_base.specs.Rpcs.{most_identifiers}
use Rattle.gs_rules.specs.declared.event.Event.{Event}
use Rattle.gs_rules.specs.declared.event.Event.TheVariants.{Step}
use Rattle.gs_rules.specs.declared.event.BeatStep.TheVariants.{BeatEnd}
use Rattle.gs_rules.specs.Peers.{Peer, windows}
use Rattle.gs_rules.specs.Tables.{Entries, Keeping, after_marks, aged_after, kept, kept_after, keeping, keeping_order, last_kept, message_in, older, order_after}
use Rattle.gs_rules.specs.Gossip.{IsKeptOn, gossip, gossipable, is_gossiped, last_of}
use Rattle.gs_rules.proofs.Charged.{among_after, among_first}

-- ---- what is kept stands in the order

-- identifiers of the same bytes are one
same_identifier : (x id : MsgId) → same_id x id ≡ true → x ≡ id
same_identifier x id is = ap (λ (bytes : List ℕ). record { 0 = bytes }) ((bytes_eq-Decides x.0 id.0).0 is)

-- what is kept anew stands last, and all others stay
anew_stands : (id other : MsgId) (before : List MsgId) → same_id other id ≡ true → list_any (same_id id) (filter (λ x. not (same_id other x)) before ++ other ∷ []) ≡ true
anew_stands id other before is =
    let this : same_id id other ≡ true = subst (λ (x : MsgId). same_id id x ≡ true) (sym (same_identifier other id is)) (nat_list_eq_equiv.refl id.0) in
    list_any-append (same_id id) (filter (λ x. not (same_id other x)) before) (other ∷ [])
    ∙ or_right (list_any (same_id id) (filter (λ x. not (same_id other x)) before)) (same_id id other || false) (or_left (same_id id other) false this)

other_stays : (id other : MsgId) (before : List MsgId) → same_id other id ≡ false → list_any (same_id id) before ≡ true → list_any (same_id id) (filter (λ x. not (same_id other x)) before ++ other ∷ []) ≡ true
other_stays id other before apart stands =
    list_any-append (same_id id) (filter (λ x. not (same_id other x)) before) (other ∷ [])
    ∙ or_left (list_any (same_id id) (filter (λ x. not (same_id other x)) before)) (same_id id other || false)
    (any-filter_same (same_id id) (λ x. not (same_id other x)) true (λ x is. not_from_false (same_id other x) (ap (same_id other) (sym (same_identifier id x is)) ∙ apart)) before ∙ stands)

mark_stands : (id : MsgId) (event : Event) (mark : Mark) (found : Option Keeping) (before : List MsgId) → (is_some found ≡ true → list_any (same_id id) before ≡ true) → is_some (kept_after id event mark found) ≡ true → list_any (same_id id) (order_after mark before) ≡ true
mark_stands id event (Cached other t) found before earlier now = by (same_id other id) refl now
  where
    by : (same : Bool) → same_id other id ≡ same → is_some (if same then Some (record { topic = t; message = message_in event; age = 0 }) else found) ≡ true → list_any (same_id id) (filter (λ x. not (same_id other x)) before ++ other ∷ []) ≡ true
    by true is given = anew_stands id other before is
    by false is given = other_stays id other before is (earlier given)
mark_stands id event other found before earlier now = earlier now

marks_stand : (id : MsgId) (event : Event) (marks : List Mark) (found : Option Keeping) (before : List MsgId) → (is_some found ≡ true → list_any (same_id id) before ≡ true) → is_some (after_marks (kept_after id event) marks found) ≡ true → list_any (same_id id) (after_marks order_after marks before) ≡ true
marks_stand id event [] found before earlier now = earlier now
marks_stand id event (mark ∷ marks) found before earlier now =
    marks_stand id event marks (kept_after id event mark found) (order_after mark before) (mark_stands id event mark found before earlier) now

-- what grows older was kept
older_kept : (found : Option Keeping) → is_some (older found) ≡ true → is_some found ≡ true
older_kept None is = is
older_kept (Some k) is = refl

aged_kept : (event : Event) (found : Option Keeping) → is_some (aged_after event found) ≡ true → is_some found ≡ true
aged_kept (Step BeatEnd) found is = older_kept found is
aged_kept other found is = is

last_stands : (L : Entries) (id : MsgId) → is_some (last_kept L id) ≡ true → list_any (same_id id) (keeping_order L) ≡ true
last_stands [] id is = absurd cc
last_stands (e ∷ L) id is =
    marks_stand id e.event e.effects.marks (aged_after e.event (last_kept L id)) (keeping_order L) (λ aged. last_stands L id (aged_kept e.event (last_kept L id) aged)) is

counts : (len : ℕ) (last : Option Keeping) (found : Keeping) → keeping len last ≡ Some found → is_some last ≡ true
counts len None found is = absurd cc
counts len (Some k) found is = refl

pub stands : (len : ℕ) (L : Entries) (id : MsgId) (found : Keeping) → kept len L id ≡ Some found → list_any (same_id id) (keeping_order L) ≡ true
stands len L id found is = last_stands L id (counts len (last_kept L id) found is)

-- ---- what passes

-- the test of what is gossiped
abbrev passes : Peer → Entries → Topic → MsgId → Bool
passes p L t id = is_gossiped p.params.timing.mcache_gossip t (kept (windows p) L id)

passes_kept : (p : Peer) (L : Entries) (t : Topic) (id : MsgId) → IsKeptOn p L t id → passes p L t id ≡ true
passes_kept p L t id keeps =
    ap (is_gossiped p.params.timing.mcache_gossip t) keeps.is_kept
    ∙ and_from (nat_lt keeps.found.age p.params.timing.mcache_gossip) (same_topic keeps.found.topic t) (lt-ltb keeps.found.age p.params.timing.mcache_gossip keeps.young) keeps.on_topic

among_any : (id : MsgId) (ids : List MsgId) → list_any (same_id id) ids ≡ true → IsAmong ids id
among_any id ids is =
    let at = Contains-from_any same_identifier id ids is in
    (at.0, (at.1, sym at.2))

may_be_gossiped : (p : Peer) (L : Entries) (t : Topic) (id : MsgId) → IsKeptOn p L t id → IsAmong (gossipable p L t) id
may_be_gossiped p L t id keeps =
    among_any id (gossipable p L t)
    (any-filter_same (same_id id) (passes p L t) true (λ x is. ap (passes p L t) (sym (same_identifier id x is)) ∙ passes_kept p L t id keeps) (keeping_order L)
    ∙ stands (windows p) L id keeps.found keeps.is_kept)

-- ---- the cut

none_cut : {X : Type 0} (n : ℕ) (xs : List X) → length xs ≤ n → last_of n xs ≡ xs
none_cut n xs few = ap (λ (k : ℕ). drop k xs) (nothing_over (length xs) n few)
  where
    nothing_over : (a b : ℕ) → a ≤ b → a - b ≡ 0
    nothing_over a b below = omega (arith, below)

pub whole : (p : Peer) (L : Entries) (t : Topic) → length (gossipable p L t) ≤ most_identifiers → gossip p L t ≡ gossipable p L t
whole p L t few = none_cut most_identifiers (gossipable p L t) few

pub each : (p : Peer) (L : Entries) (t : Topic) (id : MsgId) → IsKeptOn p L t id → length (gossipable p L t) ≤ most_identifiers → IsAmong (gossip p L t) id
each p L t id keeps few = subst (λ (ids : List MsgId). IsAmong ids id) (sym (whole p L t few)) (may_be_gossiped p L t id keeps)

-- what comes after as many as are left out is among the rest
left_in : {X : Type 0} (k : ℕ) (x : X) (before behind : List X) → k ≤ length before → IsAmong (drop k (before ++ x ∷ behind)) x
left_in zero x before behind few = among_after x before (x ∷ behind) (among_first x behind)
left_in (suc k) x [] behind few = absurd (omega (arith, few))
left_in (suc k) x (y ∷ before) behind few = left_in k x before behind (omega (arith, few))

among_last : {X : Type 0} (n : ℕ) (x : X) (before behind : List X) → length behind < n → IsAmong (last_of n (before ++ x ∷ behind)) x
among_last n x before behind few =
    left_in (length (before ++ x ∷ behind) - n) x before behind (omega (arith, few, length-append before (x ∷ behind)))

pub last : (p : Peer) (L : Entries) (t : Topic) (id : MsgId) (before behind : List MsgId) → gossipable p L t ≡ before ++ id ∷ behind → length behind < most_identifiers → IsAmong (gossip p L t) id
last p L t id before behind is few = subst (λ (ids : List MsgId). IsAmong (last_of most_identifiers ids) id) (sym is) (among_last most_identifiers id before behind few)
