-- What a summary becomes by what is seen next.
use Rattle.std.proofs.Common.{◌≡◌, ◌+◌, ℕ, min, ℤ, pos, Bool, true, false, if◌then◌else◌, List, [], ◌∷◌, ◌++◌, Option, None, Some, map, refl, sym, ap, ◌∙◌, arith, append-nil}
use Rattle.std.specs.Prelude.{filter, fold, sum_by}
use Rattle.std.specs.List.{last_or}
use Rattle.std.proofs.lemmas.List.{map-append}
use Rattle.std.proofs.lemmas.List.Elements.{filter-append}
use Rattle.std.proofs.lemmas.List.Sums.{sum_by_push}
use Rattle.gs_base.specs.declared.names.PeerNo.{PeerNo}
use Rattle.gs_params.specs.declared.params.Thresholds.{Thresholds}
use Rattle.gs_rules.specs.declared.fallen.Fallen.{Fallen}
use Rattle.gs_snapshots.specs.declared.courses.Course.{Course}
use Rattle.gs_snapshots.specs.declared.courses.Crossing.{Crossing}
use Rattle.gs_snapshots.specs.declared.falls.Falls.{Falls}
use Rattle.gs_snapshots.specs.declared.snapshot.Snapshot.{Snapshot}
use Rattle.gs_snapshots.specs.declared.summary.Summary.{Summary}
use Rattle.gs_snapshots.specs.Courses.{course_of, crossing_of, crossings, differ, is_below, is_crossing, was_below, with_before}
use Rattle.gs_snapshots.specs.Falls.{falls_by, falls_of, most_told, total_of}
use Rattle.gs_snapshots.specs.Noting.{course_with, falls_plus, plus, with_fallen, with_snapshot}
use Rattle.gs_snapshots.specs.Summary.{score_in, summary_of}
use Rattle.gs_snapshots.proofs.Lowest.{lowest_more}

-- ---- courses

last_more : {A : Type 0} (before : Option A) (xs : List A) (x : A) → last_or before (xs ++ x ∷ []) ≡ Some x
last_more before [] x = refl
last_more before (y ∷ xs) x = last_more (Some y) xs x

with_more : {A : Type 0} (before : Option A) (xs : List A) (x : A) → with_before before (xs ++ x ∷ []) ≡ with_before before xs ++ (last_or before xs, x) ∷ []
with_more before [] x = refl
with_more {A = A} before (y ∷ xs) x = ap (λ (ps : List (Option A × A)). (before, y) ∷ ps) (with_more (Some y) xs x)

crossings_more : (bound : ℤ) (ss : List Snapshot) (s : Snapshot)
    → crossings bound (ss ++ s ∷ []) ≡ crossings bound ss ++ map (crossing_of bound) (filter (is_crossing bound) ((last_or None ss, s) ∷ []))
crossings_more bound ss s =
    ap (λ (ps : List (Option Snapshot × Snapshot)). map (crossing_of bound) (filter (is_crossing bound) ps)) (with_more None ss s)
    ∙ ap (map (crossing_of bound)) (filter-append (is_crossing bound) (with_before None ss) ((last_or None ss, s) ∷ []))
    ∙ map-append (crossing_of bound) (filter (is_crossing bound) (with_before None ss)) (filter (is_crossing bound) ((last_or None ss, s) ∷ []))

one_crossing : (bound : ℤ) (before : Option Snapshot) (s : Snapshot)
    → map (crossing_of bound) (filter (is_crossing bound) ((before, s) ∷ []))
    ≡ (if differ (was_below bound before) (is_below bound s) then record { at = s.moment.at; is_below = is_below bound s } ∷ [] else [])
one_crossing bound before s = by (differ (was_below bound before) (is_below bound s))
  where
    by : (b : Bool) → map (crossing_of bound) (if b then (before, s) ∷ [] else []) ≡ (if b then record { at = s.moment.at; is_below = is_below bound s } ∷ [] else [])
    by true = refl
    by false = refl

pub course_more : (bound : ℤ) (ss : List Snapshot) (s : Snapshot) → course_with bound s (course_of bound ss) ≡ course_of bound (ss ++ s ∷ [])
course_more bound ss s =
    let below : is_below bound s ≡ was_below bound (last_or None (ss ++ s ∷ [])) = ap (was_below bound) (sym (last_more None ss s)) in
    let crossed = sym (crossings_more bound ss s ∙ ap (λ (more : List Crossing). crossings bound ss ++ more) (one_crossing bound (last_or None ss) s)) in
    λ i. record { is_below = below i; crossings = crossed i }

-- ---- falls

total_more : (number : Falls → ℕ) (q : PeerNo) (all : List Fallen) (fallen : Fallen)
    → plus (total_of number q all) (number (falls_by q fallen)) ≡ total_of number q (all ++ fallen ∷ [])
total_more number q all fallen = omega (arith, sum_by_push (λ (x : Fallen). number (falls_by q x)) all fallen)

pub falls_more : (q : PeerNo) (all : List Fallen) (fallen : Fallen) → falls_plus (falls_of q all) (falls_by q fallen) ≡ falls_of q (all ++ fallen ∷ [])
falls_more q all fallen =
    let of = λ (number : Falls → ℕ). total_more number q all fallen in
    λ i. record {
      graylisted = of (λ falls. falls.graylisted) i;
      late = of (λ falls. falls.late) i;
      grafts = record {
        explicit = of (λ falls. falls.grafts.explicit) i;
        backoff = of (λ falls. falls.grafts.backoff) i;
        score = of (λ falls. falls.grafts.score) i;
        full = of (λ falls. falls.grafts.full) i;
      };
      requests = record {
        score = of (λ falls. falls.requests.score) i;
        too_often = of (λ falls. falls.requests.too_often) i;
        not_kept = of (λ falls. falls.requests.not_kept) i;
      };
      promises = of (λ falls. falls.promises) i;
    }

-- ---- summaries

pub snapshot_more : (t : Thresholds) (q : PeerNo) (ss : List Snapshot) (s : Snapshot) (all : List Fallen)
    → with_snapshot t s (summary_of t q ss all) ≡ summary_of t q (ss ++ s ∷ []) all
snapshot_more t q ss s all = λ i. record {
  neighbour = q;
  zero = course_more (pos 0) ss s i;
  gossip = course_more t.gossip_threshold ss s i;
  publish = course_more t.publish_threshold ss s i;
  graylist = course_more t.graylist_threshold ss s i;
  lowest = lowest_more score_in ss s i;
  falls = falls_of q all;
}

pub fallen_more : (t : Thresholds) (q : PeerNo) (ss : List Snapshot) (all : List Fallen) (fallen : Fallen)
    → with_fallen fallen (summary_of t q ss all) ≡ summary_of t q ss (all ++ fallen ∷ [])
fallen_more t q ss all fallen =
    ap (λ (falls : Falls). record (summary_of t q ss all) { falls = falls }) (falls_more q all fallen)
