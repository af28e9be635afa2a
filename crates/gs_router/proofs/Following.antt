-- Following a trace that stands, entry by entry.
use Rattle.std.proofs.Common.{◌≡◌, ◌≤◌, ◌+◌, ℕ, arith, List, [], ◌∷◌, ◌++◌, length, take, drop, reverse, slice_get, Some, sym, ap, subst, ◌∙◌}
use Rattle.std.proofs.lemmas.List.{append_assoc, length-reverse, reverse-append, reverse-reverse, take-append-drop, take_more}
use Rattle.std.proofs.lemmas.Option.{get_or_from_slice_get, slice_get_within}
use Rattle.gs_rules.specs.declared.trace.Entry.{Entry}
use Rattle.gs_rules.specs.Tables.{Entries, last_moment}
use Rattle.gs_score.proofs.Sums.{drop_first}
use Rattle.gs_router.specs.declared.follower.Follower.{Follower}
use Rattle.gs_router.specs.Following.{AreInOrder, Follows, Reading}

pub order_before : (later L : Entries) → AreInOrder (later ++ L) → AreInOrder L
order_before [] L h = h
order_before (e ∷ later) L h = order_before later L h.1

-- entries that fall into those up to a place and those from it on, the other way round
parted : (n : ℕ) (es : List Entry) → reverse es ≡ reverse (drop n es) ++ reverse (take n es)
parted n es = ap (λ (xs : List Entry). reverse xs) (sym (take-append-drop n es)) ∙ reverse-append (take n es) (drop n es)

-- the next entry is no earlier than the last that was seen
next_is_later : (n : ℕ) (es : List Entry) (e : Entry) → drop n es ≡ e ∷ drop (n + 1) es → AreInOrder (reverse es) → last_moment (reverse (take n es)) ≤ e.at.0
next_is_later n es e here order =
    let whole : reverse es ≡ reverse (drop (n + 1) es) ++ (e ∷ reverse (take n es)) =
    parted n es
    ∙ ap (λ (xs : List Entry). reverse xs ++ reverse (take n es)) here
    ∙ ap (λ (xs : List Entry). xs ++ reverse (take n es)) (reverse-append (e ∷ []) (drop (n + 1) es))
    ∙ append_assoc (reverse (drop (n + 1) es)) (e ∷ []) (reverse (take n es)) in
    (order_before (reverse (drop (n + 1) es)) (e ∷ reverse (take n es)) (subst AreInOrder whole order)).0

-- the next entry is no earlier than the last one that was seen
pub last_is_past : (f : Follower) (v : Reading) (e : Entry) → Follows f v → slice_get (reverse f.trace.now) f.place ≡ Some e → last_moment v.before ≤ e.at.0
last_is_past f v e follows is =
    let es : List Entry = reverse f.trace.now in
    let same : last_moment v.before ≡ last_moment (reverse (take f.place es)) = ap last_moment follows.before in
    let later = next_is_later f.place es e (drop_first es f.place e (sym is)) (subst AreInOrder (sym (reverse-reverse f.trace.now)) follows.order) in
    omega (arith, same, later)

-- with the next entry, what was seen is one more
pub seen_more : (n : ℕ) (es : List Entry) (e : Entry) → slice_get es n ≡ Some e → e ∷ reverse (take n es) ≡ reverse (take (n + 1) es)
seen_more n es e is =
    sym (ap (λ (xs : List Entry). reverse xs) (take_more es n e (slice_get_within es n e is) ∙ ap (λ (x : Entry). take n es ++ x ∷ []) (get_or_from_slice_get es n e e is)) ∙ reverse-append (take n es) (e ∷ []))

pub seen_within : (n : ℕ) (f : Follower) (e : Entry) → slice_get (reverse f.trace.now) n ≡ Some e → n + 1 ≤ length f.trace.now
seen_within n f e is =
    let within = slice_get_within (reverse f.trace.now) n e is in
    let same = length-reverse f.trace.now in
    omega (arith, within, same)
