-- One element more: what is told so far, and then what is told of it.
use Rattle.std.proofs.Common.{◌≡◌, ◌<◌, ◌+◌, ℕ, zero, suc, Bool, cond, Option, Some, None, option_map, List, [], ◌∷◌, ◌++◌, filter, flat_map, get_or, length, map, reverse, take, drop, sym, ap, ◌∙◌, append_assoc, append-nil, take-append-drop, arith}
use Rattle.std.specs.List.{AllByRecursion}
use Rattle.std.proofs.lemmas.List.{map-append, reverse-append, take_more}
use Rattle.std.proofs.lemmas.List.Elements.{filter-append}
use Rattle.std.proofs.lemmas.Grind.{flat_map-append}
use Rattle.gs_base.specs.declared.names.PeerNo.{PeerNo}
use Rattle.gs_base.specs.declared.neighbour.Neighbour.{Neighbour}
use Rattle.gs_base.specs.Names.{peers_of}
use Rattle.gs_plan.specs.declared.plan.Plan.{Plan}
use Rattle.gs_rules.specs.declared.trace.Entry.{Entry}
use Rattle.gs_rules.specs.Tables.{Entries}
use Rattle.gs_snapshots.specs.declared.moments.Moment.{Moment}
use Rattle.gs_snapshots.specs.declared.moments.Occasion.{Occasion}
use Rattle.gs_snapshots.specs.Moments.{moment_of, moments, newest_moment, traces_so_far, with_trace}

-- ---- lists

-- what holds of each element holds of the one at a place
pub each_of : {A : Type 0} (P : A → Type 0) (xs : List A) (i : ℕ) (d : A) → i < length xs → AllByRecursion P xs → P (get_or xs i d)
each_of P [] i d low all = absurd (omega (arith, low))
each_of P (x ∷ xs) zero d low all = all.0
each_of P (x ∷ xs) (suc i) d low all = each_of P xs i d (omega (arith, low)) all.1

-- two lists one after the other, as far as they pass a test, each element as a text
text_more : {A : Type 0} (text : A → List ℕ) (test : A → Bool) (xs ys : List A)
    → flat_map text (filter test xs) ++ flat_map text (filter test ys) ≡ flat_map text (filter test (xs ++ ys))
text_more text test xs ys =
    sym (flat_map-append text (filter test xs) (filter test ys))
    ∙ ap (flat_map text) (sym (filter-append test xs ys))

-- the numbers of a front of neighbours that pass a test, and then the next one's where it passes
pub passing_more : (test : PeerNo → Bool) (xs : List Neighbour) (i : ℕ) (d : Neighbour) (so_far next : List PeerNo) → i < length xs → d ≡ get_or xs i d
    → so_far ≡ filter test (peers_of (take i xs)) → next ≡ so_far ++ cond (test d.peer) (d.peer ∷ []) [] → next ≡ filter test (peers_of (take (i + 1) xs))
passing_more test xs i d so_far next low is before added =
    added
    ∙ ap (λ (front : List PeerNo). front ++ filter test (d.peer ∷ [])) before
    ∙ ap (λ (x : Neighbour). filter test (peers_of (take i xs)) ++ filter test (x.peer ∷ [])) is
    ∙ sym (filter-append test (peers_of (take i xs)) ((get_or xs i d).peer ∷ []))
    ∙ ap (filter test) (sym (map-append (λ (n : Neighbour). n.peer) (take i xs) (get_or xs i d ∷ [])))
    ∙ ap (λ (front : List Neighbour). filter test (peers_of front)) (sym (take_more xs i d low))

-- the entries of a front, the newest first
pub front_reversed : {A : Type 0} (xs : List A) (i : ℕ) (d : A) → i < length xs → d ≡ get_or xs i d → d ∷ reverse (take i xs) ≡ reverse (take (i + 1) xs)
front_reversed {A = A} xs i d low is =
    ap (λ (x : A). x ∷ reverse (take i xs)) is
    ∙ sym (reverse-append (take i xs) (get_or xs i d ∷ []))
    ∙ ap reverse (sym (take_more xs i d low))

-- ---- traces

-- the moments of a trace, and then that of one entry more
pub moments_more : (plan : Plan) (p : PeerNo) (e : Entry) (L : Entries) → moments plan p (e ∷ L) ≡ moments plan p L ++ newest_moment plan p (e ∷ L)
moments_more plan p e L =
    ap (flat_map (newest_moment plan p)) (reverse-append ((e ∷ L) ∷ []) (traces_so_far L))
    ∙ flat_map-append (newest_moment plan p) (reverse (traces_so_far L)) ((e ∷ L) ∷ [])
    ∙ ap (λ (more : List (Moment × Entries)). moments plan p L ++ more) (append-nil (newest_moment plan p (e ∷ L)))

-- a moment that there is of an entry is that of the trace with it, and of its peer
pub moment_given : (plan : Plan) (p : PeerNo) (e : Entry) (L : Entries) (o : Option Occasion) (m : Moment) → option_map (moment_of plan p e) o ≡ Some m
    → (with_trace plan p e L o ≡ (m, e ∷ L) ∷ []) × (m.peer ≡ p)
moment_given plan p e L None m is = absurd cc
moment_given plan p e L (Some o) m is =
    let same : moment_of plan p e o ≡ m = cc in
    (ap (λ (x : Moment). (x, e ∷ L) ∷ []) same, sym (ap (λ (x : Moment). x.peer) same))

pub told_more : (text : Moment × Entries → List ℕ) (test : Moment × Entries → Bool) (plan : Plan) (p : PeerNo) (e : Entry) (L : Entries)
    → flat_map text (filter test (moments plan p L)) ++ flat_map text (filter test (newest_moment plan p (e ∷ L))) ≡ flat_map text (filter test (moments plan p (e ∷ L)))
told_more text test plan p e L =
    text_more text test (moments plan p L) (newest_moment plan p (e ∷ L))
    ∙ ap (λ (all : List (Moment × Entries)). flat_map text (filter test all)) (sym (moments_more plan p e L))

-- the moments of entries that come after others, the newest entry first
abbrev later : Plan → PeerNo → Entries → Entries → List (Moment × Entries)
later plan p [] L = []
later plan p (k ∷ K) L = later plan p K L ++ newest_moment plan p (k ∷ (K ++ L))

later_moments : (plan : Plan) (p : PeerNo) (K L : Entries) → moments plan p (K ++ L) ≡ moments plan p L ++ later plan p K L
later_moments plan p [] L = sym (append-nil (moments plan p L))
later_moments plan p (k ∷ K) L =
    moments_more plan p k (K ++ L)
    ∙ ap (λ (so_far : List (Moment × Entries)). so_far ++ newest_moment plan p (k ∷ (K ++ L))) (later_moments plan p K L)
    ∙ append_assoc (moments plan p L) (later plan p K L) (newest_moment plan p (k ∷ (K ++ L)))

-- what is told at the entries that are left after a front of them
abbrev pub told_later : (text : Moment × Entries → List ℕ) (test : Moment × Entries → Bool) → Plan → PeerNo → List Entry → ℕ → List ℕ
told_later text test plan p es i = flat_map text (filter test (later plan p (reverse (drop i es)) (reverse (take i es))))

-- what is told at a front of entries, the oldest first, and then at the others
pub told_parts : (text : Moment × Entries → List ℕ) (test : Moment × Entries → Bool) (plan : Plan) (p : PeerNo) (es : List Entry) (i : ℕ)
    → flat_map text (filter test (moments plan p (reverse es))) ≡ flat_map text (filter test (moments plan p (reverse (take i es)))) ++ told_later text test plan p es i
told_parts text test plan p es i =
    let K = reverse (drop i es) in
    let L = reverse (take i es) in
    let both : reverse es ≡ K ++ L = ap (λ (all : List Entry). reverse all) (sym (take-append-drop i es)) ∙ reverse-append (take i es) (drop i es) in
    ap (λ (trace : Entries). flat_map text (filter test (moments plan p trace))) both
    ∙ ap (λ (all : List (Moment × Entries)). flat_map text (filter test all)) (later_moments plan p K L)
    ∙ sym (text_more text test (moments plan p L) (later plan p K L))
