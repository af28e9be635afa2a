-- Promises that were neither kept nor ended: they are those that some entry made and each entry since left open.
use Rattle.std.proofs.Common.{◌≡◌, ◌≤◌, ℕ, zero, suc, Bool, true, false, ◌⊎◌, if◌then◌else◌, List, [], ◌∷◌, ◌++◌, map, filter, Option, Some, None, inl, inr, refl, sym, ap, subst, ◌∙◌, arith}
use Rattle.std.specs.Prelude.{not, ◌&&◌, nat_le, nat_lt}
use Rattle.std.specs.List.{AllByRecursion, IsAmong, list_any}
use Rattle.std.proofs.lemmas.Bool.{and_from, le-leb, leb-false, lt-leb, lt-ltb, ltb-true, not_from_false, or_from, or_parts}
use Rattle.std.proofs.lemmas.Cmp.{nat_eq_equiv}
use Rattle.gs_base.specs.declared.names.PeerNo.{PeerNo}
use Rattle.gs_base.specs.declared.mark.Mark.{Mark}
use Rattle.gs_base.specs.declared.mark.Mark.TheVariants.{Misbehaviour, Seen}
use Rattle.gs_base.specs.Names.{same_id, same_peer}
use Rattle.gs_rules.specs.declared.trace.Promise.{Promise}
use Rattle.gs_rules.specs.declared.event.Event.{Event}
use Rattle.gs_rules.specs.declared.event.Event.TheVariants.{BeatBegin}
use Rattle.gs_rules.specs.declared.trace.Entry.{Entry}
use Rattle.gs_rules.specs.Tables.{Entries, after_marks, ended_after, fulfilled_after, made, promises, up}
use Rattle.gs_rules.specs.Gossip.{IsOpen, WasLeftOpen, charges, ends_promise, keeps_promise, overdue}

-- ---- lists

pub among_first : {X : Type 0} (x : X) (xs : List X) → IsAmong (x ∷ xs) x
among_first x xs = (zero, (omega arith, refl))

pub among_rest : {X : Type 0} (x y : X) (xs : List X) → IsAmong xs x → IsAmong (y ∷ xs) x
among_rest x y xs (i, (below, is)) = (suc i, (omega (arith, below), is))

pub among_none : {X : Type 0} (x : X) → IsAmong [] x → ⊥
among_none x (i, (below, is)) = omega (arith, below)

-- what is among others is the first of them, or among the rest
among_parts : {X : Type 0} (x y : X) (xs : List X) → IsAmong (y ∷ xs) x → (x ≡ y) ⊎ IsAmong xs x
among_parts x y xs (zero, (below, is)) = inl is
among_parts x y xs (suc i, (below, is)) = inr (i, (omega (arith, below), is))

among_front : {X : Type 0} (x : X) (xs ys : List X) → IsAmong xs x → IsAmong (xs ++ ys) x
among_front x [] ys among = absurd (among_none x among)
among_front x (y ∷ xs) ys among = by (among_parts x y xs among) (among_front x xs ys)
  where
    by : (x ≡ y) ⊎ IsAmong xs x → (IsAmong xs x → IsAmong (xs ++ ys) x) → IsAmong (y ∷ (xs ++ ys)) x
    by (inl is) next = subst (λ z. IsAmong (z ∷ (xs ++ ys)) x) is (among_first x (xs ++ ys))
    by (inr rest) next = among_rest x y (xs ++ ys) (next rest)

pub among_after : {X : Type 0} (x : X) (xs ys : List X) → IsAmong ys x → IsAmong (xs ++ ys) x
among_after x [] ys among = among
among_after x (y ∷ xs) ys among = among_rest x y (xs ++ ys) (among_after x xs ys among)

among_either : {X : Type 0} (x : X) (xs ys : List X) → IsAmong (xs ++ ys) x → IsAmong xs x ⊎ IsAmong ys x
among_either x [] ys among = inr among
among_either x (y ∷ xs) ys among = by (among_parts x y (xs ++ ys) among) (among_either x xs ys)
  where
    one_more : IsAmong xs x ⊎ IsAmong ys x → IsAmong (y ∷ xs) x ⊎ IsAmong ys x
    one_more (inl here) = inl (among_rest x y xs here)
    one_more (inr there) = inr there

    by : (x ≡ y) ⊎ IsAmong (xs ++ ys) x → (IsAmong (xs ++ ys) x → IsAmong xs x ⊎ IsAmong ys x) → IsAmong (y ∷ xs) x ⊎ IsAmong ys x
    by (inl is) next = inl (subst (λ z. IsAmong (z ∷ xs) x) is (among_first x xs))
    by (inr rest) next = one_more (next rest)

among_mapped : {X Y : Type 0} (f : X → Y) (x : X) (xs : List X) → IsAmong xs x → IsAmong (map f xs) (f x)
among_mapped f x [] among = absurd (among_none x among)
among_mapped f x (y ∷ xs) among = by (among_parts x y xs among) (among_mapped f x xs)
  where
    by : (x ≡ y) ⊎ IsAmong xs x → (IsAmong xs x → IsAmong (map f xs) (f x)) → IsAmong (f y ∷ map f xs) (f x)
    by (inl is) next = subst (λ z. IsAmong (f z ∷ map f xs) (f x)) is (among_first (f x) (map f xs))
    by (inr rest) next = among_rest (f x) (f y) (map f xs) (next rest)

-- what passes a test stays, and what stays was there and passes
among_passing : {X : Type 0} (test : X → Bool) (x : X) (xs : List X) → test x ≡ true → IsAmong xs x → IsAmong (filter test xs) x
among_passing test x [] passes among = among
among_passing test x (y ∷ xs) passes among = by (among_parts x y xs among) (among_passing test x xs passes)
  where
    later : (b : Bool) → IsAmong (filter test xs) x → IsAmong (if b then y ∷ filter test xs else filter test xs) x
    later true rest = among_rest x y (filter test xs) rest
    later false rest = rest

    first : IsAmong (filter test (x ∷ xs)) x
    first = rw passes (among_first x (filter test xs))

    by : (x ≡ y) ⊎ IsAmong xs x → (IsAmong xs x → IsAmong (filter test xs) x) → IsAmong (filter test (y ∷ xs)) x
    by (inl is) next = subst (λ z. IsAmong (filter test (z ∷ xs)) x) is first
    by (inr rest) next = later (test y) (next rest)

among_passed : {X : Type 0} (test : X → Bool) (x : X) (xs : List X) → IsAmong (filter test xs) x → IsAmong xs x × (test x ≡ true)
among_passed test x [] among = absurd (among_none x among)
among_passed test x (y ∷ xs) among = by (test y) refl among (λ rest. one_more (among_passed test x xs rest))
  where
    one_more : IsAmong xs x × (test x ≡ true) → IsAmong (y ∷ xs) x × (test x ≡ true)
    one_more (rest, passes) = (among_rest x y xs rest, passes)

    found : test y ≡ true → (x ≡ y) ⊎ IsAmong (filter test xs) x → (IsAmong (filter test xs) x → IsAmong (y ∷ xs) x × (test x ≡ true)) → IsAmong (y ∷ xs) x × (test x ≡ true)
    found passes (inl is) next = (subst (λ z. IsAmong (z ∷ xs) x) is (among_first x xs), ap test is ∙ passes)
    found passes (inr rest) next = next rest

    by : (b : Bool) → test y ≡ b → IsAmong (if b then y ∷ filter test xs else filter test xs) x → (IsAmong (filter test xs) x → IsAmong (y ∷ xs) x × (test x ≡ true)) → IsAmong (y ∷ xs) x × (test x ≡ true)
    by true passes rest next = found passes (among_parts x y (filter test xs) rest) next
    by false fails rest next = next rest

-- ---- what an entry leaves open

-- marks that do not keep a promise leave it
marks_leave : (promise : Promise) (marks : List Mark) (before : List Promise) → list_any (keeps_promise promise) marks ≡ false → IsAmong before promise → IsAmong (after_marks fulfilled_after marks before) promise
marks_leave promise [] before unkept among = among
marks_leave promise (Seen id verdict ∷ marks) before unkept among =
    let parts = or_parts (same_id id promise.id) (list_any (keeps_promise promise) marks) unkept in
    let others : List Promise = filter (λ other. not (same_id id other.id)) before in
    marks_leave promise marks others parts.1 (among_passing (λ other. not (same_id id other.id)) promise before (not_from_false (same_id id promise.id) parts.0) among)
marks_leave promise (other ∷ marks) before unkept among = marks_leave promise marks before unkept among

-- an event that does not end a promise leaves it
event_leaves : (promise : Promise) (event : Event) (at : ℕ) (before : List Promise) → ends_promise promise event at ≡ false → IsAmong before promise → IsAmong (ended_after event at before) promise
event_leaves promise BeatBegin at before unended among =
    among_passing (λ other. nat_lt at other.until.0) promise before (lt-ltb at promise.until.0 (leb-false promise.until.0 at unended)) among
event_leaves promise other at before unended among = among

entry_leaves : (promise : Promise) (e : Entry) (L : Entries) → IsOpen promise e → IsAmong (promises L) promise → IsAmong (promises (e ∷ L)) promise
entry_leaves promise e L leaves among =
    let ended : List Promise = ended_after e.event e.at.0 (promises L) in
    among_front promise (after_marks fulfilled_after e.effects.marks ended) (made e.effects.promise)
    (marks_leave promise e.effects.marks ended leaves.unkept (event_leaves promise e.event e.at.0 (promises L) leaves.unended among))

entry_makes : (promise : Promise) (e : Entry) (L : Entries) → e.effects.promise ≡ Some promise → IsAmong (promises (e ∷ L)) promise
entry_makes promise e L makes =
    among_after promise (after_marks fulfilled_after e.effects.marks (ended_after e.event e.at.0 (promises L))) (made e.effects.promise)
    (subst (λ (new : Option Promise). IsAmong (made new) promise) (sym makes) (among_first promise []))

pub held : (later earlier : Entries) (e : Entry) (promise : Promise) → e.effects.promise ≡ Some promise → AllByRecursion (IsOpen promise) later → IsAmong (promises (later ++ e ∷ earlier)) promise
held [] earlier e promise makes leaves = entry_makes promise e earlier makes
held (f ∷ later) earlier e promise makes leaves = entry_leaves promise f (later ++ e ∷ earlier) leaves.0 (held later earlier e promise makes leaves.1)

-- ---- it is charged

-- a neighbour is itself
itself : (q : PeerNo) → same_peer q q ≡ true
itself q = nat_eq_equiv.refl q.0

pub due_of : (L : Entries) (promise : Promise) (at : ℕ) → promise.until.0 ≤ at → IsAmong (promises L) promise → IsAmong (overdue L at promise.from) promise
due_of L promise at time among =
    among_passing (λ other. same_peer other.from promise.from && nat_le other.until.0 at) promise (promises L)
    (and_from (same_peer promise.from promise.from) (nat_le promise.until.0 at) (itself promise.from) (le-leb promise.until.0 at time)) among

pub charged_of : (L : Entries) (promise : Promise) (at : ℕ) → promise.until.0 ≤ at → up L promise.from ≡ true → IsAmong (promises L) promise → IsAmong (charges L at promise.from) (Misbehaviour promise.from)
charged_of L promise at time is_up among =
    rw is_up (among_mapped (λ (other : Promise). Misbehaviour promise.from) promise (overdue L at promise.from) (due_of L promise at time among))

-- ---- and no other promise is held

-- marks leave of promises what they do not keep
marks_left : (promise : Promise) (marks : List Mark) (before : List Promise) → IsAmong (after_marks fulfilled_after marks before) promise → (list_any (keeps_promise promise) marks ≡ false) × IsAmong before promise
marks_left promise [] before among = (refl, among)
marks_left promise (Seen id verdict ∷ marks) before among =
    let others : List Promise = filter (λ other. not (same_id id other.id)) before in
    let rest = marks_left promise marks others among in
    let passed = among_passed (λ other. not (same_id id other.id)) promise before rest.1 in
    (or_from (same_id id promise.id) (list_any (keeps_promise promise) marks) (apart (same_id id promise.id) passed.1) rest.0, passed.0)
  where
    apart : (b : Bool) → not b ≡ true → b ≡ false
    apart true is = absurd cc
    apart false is = refl
marks_left promise (other ∷ marks) before among = marks_left promise marks before among

-- each promise that is left after an event was there before it, and the event does not end it
event_left : (promise : Promise) (event : Event) (at : ℕ) (before : List Promise) → IsAmong (ended_after event at before) promise → (ends_promise promise event at ≡ false) × IsAmong before promise
event_left promise BeatBegin at before among =
    let passed = among_passed (λ other. nat_lt at other.until.0) promise before among in
    (lt-leb promise.until.0 at (ltb-true at promise.until.0 passed.1), passed.0)
event_left promise other at before among = (refl, among)

made_by : (o : Option Promise) (promise : Promise) → IsAmong (made o) promise → o ≡ Some promise
made_by None promise among = absurd (among_none promise among)
made_by (Some new) promise among = by (among_parts promise new [] among)
  where
    by : (promise ≡ new) ⊎ IsAmong [] promise → Some new ≡ Some promise
    by (inl is) = ap Some (sym is)
    by (inr none) = absurd (among_none promise none)

one_more : (promise : Promise) (e : Entry) (L : Entries) → IsOpen promise e → WasLeftOpen L promise → WasLeftOpen (e ∷ L) promise
one_more promise e L leaves earlier = record {
  later = e ∷ earlier.later;
  maker = earlier.maker;
  earlier = earlier.earlier;
  whole = ap (λ (M : Entries). e ∷ M) earlier.whole;
  makes = earlier.makes;
  leaves = (leaves, earlier.leaves);
}

pub only_left : (L : Entries) (promise : Promise) → IsAmong (promises L) promise → WasLeftOpen L promise
only_left [] promise among = absurd (among_none promise among)
only_left (e ∷ L) promise among = by (among_either promise left (made e.effects.promise) among) (only_left L promise)
  where
    ended : List Promise
    ended = ended_after e.event e.at.0 (promises L)

    left : List Promise
    left = after_marks fulfilled_after e.effects.marks ended

    by : IsAmong left promise ⊎ IsAmong (made e.effects.promise) promise → (IsAmong (promises L) promise → WasLeftOpen L promise) → WasLeftOpen (e ∷ L) promise
    by (inl old) before =
        let of_marks = marks_left promise e.effects.marks ended old in
        let of_event = event_left promise e.event e.at.0 (promises L) of_marks.1 in
        one_more promise e L (record { unkept = of_marks.0; unended = of_event.0 }) (before of_event.1)
    by (inr new) before = record { later = []; maker = e; earlier = L; whole = refl; makes = made_by e.effects.promise promise new; leaves = tt }
