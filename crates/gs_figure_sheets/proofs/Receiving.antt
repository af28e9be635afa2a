-- What peers receive, one thing more at a time.
use Rattle.std.proofs.Common.{◌≡◌, ◌<◌, ◌+◌, ℕ, ℤ, Bool, true, false, cond, if◌then◌else◌, List, [], ◌∷◌, ◌++◌, take, get_or, filter, fold, map, length, Option, Some, None, refl, sym, ap, ap₂, ◌∙◌}
use Rattle.std.specs.Prelude.{◌&&◌, ◌||◌, nat_eq, unwrap_or}
use Rattle.std.specs.List.{flat_map}
use Rattle.std.specs.Map.{lookup}
use Rattle.std.proofs.lemmas.Bool.{eq-eqb, eqb-false, eqb-true}
use Rattle.std.proofs.lemmas.List.{take_more}
use Rattle.std.proofs.lemmas.List.Elements.{filter-append}
use Rattle.std.proofs.lemmas.List.Sums.{fold-append}
use Rattle.gs_base.specs.declared.names.PeerNo.{PeerNo}
use Rattle.gs_base.specs.Names.{same_peer}
use Rattle.gs_counts.specs.declared.counts.Counts.{Counts}
use Rattle.gs_counts.specs.declared.kind.Kind.TheVariants.{BytesSent, RawBytesSent}
use Rattle.gs_counts.specs.declared.run.LinkCounts.{LinkCounts}
use Rattle.gs_counts.specs.Meshes.{widened}
use Rattle.gs_counts.specs.Rows.{count_at, plus}
use Rattle.gs_opinions.specs.declared.run.PairOpinion.{PairOpinion}
use Rattle.gs_reach.specs.declared.chosen.Chosen.{Chosen}
use Rattle.gs_reach.specs.Chosen.{is_chosen}
use Rattle.gs_rules.proofs.Members.{one_peer}
use Rattle.gs_figure_sheets.specs.declared.received.Gift.{Gift}
use Rattle.gs_figure_sheets.specs.declared.received.Received.{Received}
use Rattle.gs_figure_sheets.specs.declared.standing.Standing.{Standing}
use Rattle.gs_figure_sheets.specs.Between.{only_by, opinions_between, scores_about, scores_between}
use Rattle.gs_figure_sheets.specs.Lines.{just}
use Rattle.gs_figure_sheets.specs.Received.{judged, nothing_received, received_with, scored, sent_over}
use Rattle.gs_figure_sheets.specs.Rows.{lower}

-- ---- a row of a table

abbrev look : PeerNo → List (PeerNo × Received) → Option Received
look p es = lookup (same_peer p) es

pub one_received : (old new : List (PeerNo × Received)) (peer : PeerNo) (gift : Gift) (was : Option Received) (w : Received) (p : PeerNo)
    → look peer old ≡ was
    → w ≡ received_with (unwrap_or was nothing_received) gift
    → look p new ≡ cond (same_peer peer p) (Some w) (look p old)
    → unwrap_or (look p new) nothing_received ≡ (if same_peer peer p then received_with (unwrap_or (look p old) nothing_received) gift else unwrap_or (look p old) nothing_received)
one_received old new peer gift was w p found is updates =
    ap (λ (o : Option Received). unwrap_or o nothing_received) updates ∙ by (same_peer peer p) refl
  where
    by : (b : Bool) → same_peer peer p ≡ b → unwrap_or (cond b (Some w) (look p old)) nothing_received ≡ (if b then received_with (unwrap_or (look p old) nothing_received) gift else unwrap_or (look p old) nothing_received)
    by true same =
        is ∙ ap (λ (o : Option Received). received_with (unwrap_or o nothing_received) gift) (sym found ∙ ap (λ (q : PeerNo). look q old) (one_peer peer p same))
    by false same = refl

-- ---- folds over what is for a peer

-- one more element, where only some count
pub fold_more : {A R : Type 0} (which : A → Bool) (step : R → A → R) (first old new : R) (xs : List A) (i : ℕ) (x : A) → i < length xs → x ≡ get_or xs i x → old ≡ fold step first (filter which (take i xs)) → new ≡ (if which x then step old x else old) → new ≡ fold step first (filter which (take (i + 1) xs))
fold_more {A} {R} which step first old new xs i x below at had is =
    is ∙ by (which x) refl
    ∙ ap (λ ys. fold step first (filter which ys)) (ap (λ y. take i xs ++ y ∷ []) at ∙ sym (take_more xs i x below))
  where
    by : (b : Bool) → which x ≡ b → (if b then step old x else old) ≡ fold step first (filter which (take i xs ++ x ∷ []))
    by true counts =
        ap (λ r. step r x) had
        ∙ sym (fold-append step first (filter which (take i xs)) (x ∷ []))
        ∙ ap (fold step first) (ap (λ ys. filter which (take i xs) ++ ys) (sym (ap (λ (c : Bool). cond c (x ∷ []) []) counts)) ∙ sym (filter-append which (take i xs) (x ∷ [])))
    by false counts =
        had
        ∙ sym (fold-append step first (filter which (take i xs)) [])
        ∙ ap (fold step first) (ap (λ ys. filter which (take i xs) ++ ys) (sym (ap (λ (c : Bool). cond c (x ∷ []) []) counts)) ∙ sym (filter-append which (take i xs) (x ∷ [])))

-- ---- links

abbrev pub over_one : Received → LinkCounts → Received
over_one r link =
    record r {
      bytes = plus r.bytes (count_at link.counts BytesSent);
      raw_bytes = plus r.raw_bytes (count_at link.counts RawBytesSent);
    }

pub sent_one_by_one : (r : Received) (links : List LinkCounts) → sent_over r links ≡ fold over_one r links
sent_one_by_one r [] = refl
sent_one_by_one r (link ∷ links) = sent_one_by_one (over_one r link) links

-- ---- scores

abbrev pub with_score : Received → PeerNo × ℤ → Received
with_score r x = record r { scores = widened r.scores x.1 }

pub scored_one_by_one : (r : Received) (xs : List (PeerNo × ℤ)) → scored r (map (λ (x : PeerNo × ℤ). x.1) xs) ≡ fold with_score r xs
scored_one_by_one r [] = refl
scored_one_by_one r (x ∷ xs) = scored_one_by_one (with_score r x) xs

pub scored_part_by_part : {A : Type 0} (f : A → List ℤ) (r : Received) (xs : List A) → scored r (flat_map f xs) ≡ fold (λ (s : Received) x. scored s (f x)) r xs
scored_part_by_part f r [] = refl
scored_part_by_part f r (x ∷ xs) =
    ap (λ (scores : Option _). record r { scores = scores }) (fold-append widened r.scores (f x) (flat_map f xs))
    ∙ scored_part_by_part f (scored r (f x)) xs

-- ---- opinions

abbrev pub with_lowest : Received → PairOpinion → Received
with_lowest r x = record r { lowest = lower r.lowest (Some x.lowest) }

pub judged_one_by_one : (r : Received) (pairs : List PairOpinion) → judged r pairs ≡ fold with_lowest r pairs
judged_one_by_one r [] = refl
judged_one_by_one r (x ∷ xs) = judged_one_by_one (with_lowest r x) xs

-- ---- one peer

swapped : (a b : ℕ) → nat_eq a b ≡ nat_eq b a
swapped a b = by (nat_eq a b) refl
  where
    by : (x : Bool) → nat_eq a b ≡ x → x ≡ nat_eq b a
    by true is = sym (eq-eqb b a (sym (eqb-true a b is)))
    by false is = other (nat_eq b a) refl
      where
        other : (y : Bool) → nat_eq b a ≡ y → false ≡ y
        other true e = absurd (eqb-false a b is (sym (eqb-true b a e)))
        other false e = refl

or_none : (b : Bool) → b ≡ (b || false)
or_none true = refl
or_none false = refl

-- a peer is chosen just where it is the one
pub just_one : (p q : PeerNo) → same_peer q p ≡ is_chosen (just p) q
just_one p q = swapped q.0 p.0 ∙ or_none (same_peer p q)

-- ---- several, for one peer

abbrev pub is_scored : PeerNo → PeerNo × ℤ → Bool
is_scored p x = is_chosen (just p) x.0

abbrev pub is_judged : Chosen → PeerNo → PairOpinion → Bool
is_judged among p x = is_chosen among x.by && is_chosen (just p) x.of

abbrev pub scored_by : PeerNo → Received → Standing → Received
scored_by p r x = scored r (scores_about (just p) x.remains.scores)

if_alike : {A : Type 0} (b c : Bool) (x y : A) → b ≡ c → (if b then x else y) ≡ (if c then x else y)
if_alike b c x y is = ap (λ (d : Bool). if d then x else y) is

pub given_more : (first old new : Received) (p : PeerNo) (xs : List (PeerNo × ℤ)) (i : ℕ) (x : PeerNo × ℤ) → i < length xs → x ≡ get_or xs i x → old ≡ scored first (scores_about (just p) (take i xs)) → new ≡ (if same_peer x.0 p then with_score old x else old) → new ≡ scored first (scores_about (just p) (take (i + 1) xs))
given_more first old new p xs i x below at had is =
    fold_more (is_scored p) with_score first old new xs i x below at (had ∙ scored_one_by_one first (filter (is_scored p) (take i xs))) (is ∙ if_alike (same_peer x.0 p) (is_scored p x) (with_score old x) old (just_one p x.0))
    ∙ sym (scored_one_by_one first (filter (is_scored p) (take (i + 1) xs)))

pub scores_more : (among : Chosen) (first old new : Received) (p : PeerNo) (xs : List Standing) (i : ℕ) (x : Standing) → i < length xs → x ≡ get_or xs i x → old ≡ scored first (scores_between among (just p) (take i xs)) → new ≡ (if is_chosen among x.peer then scored_by p old x else old) → new ≡ scored first (scores_between among (just p) (take (i + 1) xs))
scores_more among first old new p xs i x below at had is =
    let given : Standing → List ℤ = λ y. scores_about (just p) y.remains.scores in
    fold_more (λ (y : Standing). is_chosen among y.peer) (scored_by p) first old new xs i x below at (had ∙ scored_part_by_part given first (only_by among (take i xs))) is
    ∙ sym (scored_part_by_part given first (only_by among (take (i + 1) xs)))

pub opinions_more : (among : Chosen) (first old new : Received) (p : PeerNo) (xs : List PairOpinion) (i : ℕ) (x : PairOpinion) → i < length xs → x ≡ get_or xs i x → old ≡ judged first (opinions_between among (just p) (take i xs)) → new ≡ (if is_judged among p x then with_lowest old x else old) → new ≡ judged first (opinions_between among (just p) (take (i + 1) xs))
opinions_more among first old new p xs i x below at had is =
    fold_more (is_judged among p) with_lowest first old new xs i x below at (had ∙ judged_one_by_one first (opinions_between among (just p) (take i xs))) is
    ∙ sym (judged_one_by_one first (opinions_between among (just p) (take (i + 1) xs)))

-- where the one who gives counts, and where not
pub judged_if : (among : Chosen) (old new : Received) (p : PeerNo) (x : PairOpinion) → is_chosen among x.by ≡ true → new ≡ (if same_peer x.of p then with_lowest old x else old) → new ≡ (if is_judged among p x then with_lowest old x else old)
judged_if among old new p x counts is =
    is
    ∙ if_alike (same_peer x.of p) (is_judged among p x) (with_lowest old x) old (just_one p x.of ∙ ap (λ (b : Bool). b && is_chosen (just p) x.of) (sym counts))

pub judged_not : (among : Chosen) (old : Received) (p : PeerNo) (x : PairOpinion) → is_chosen among x.by ≡ false → old ≡ (if is_judged among p x then with_lowest old x else old)
judged_not among old p x counts =
    if_alike false (is_judged among p x) (with_lowest old x) old (ap (λ (b : Bool). b && is_chosen (just p) x.of) (sym counts))
