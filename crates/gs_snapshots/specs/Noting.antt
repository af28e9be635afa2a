-- How the next thing that is seen changes a summary.
use Rattle.std.specs.Prelude.{ℕ, ◌+◌, ℤ, pos, int_lt, min, Bool, true, if◌then◌else◌, List, [], ◌∷◌, ◌++◌, fold, map, Option, Some, None}
use Rattle.gs_base.specs.declared.names.PeerNo.{PeerNo}
use Rattle.gs_params.specs.declared.params.Thresholds.{Thresholds}
use Rattle.gs_rules.specs.declared.fallen.Fallen.{Fallen}
use Rattle.gs_snapshots.specs.declared.courses.Course.{Course}
use Rattle.gs_snapshots.specs.declared.courses.Crossing.{Crossing}
use Rattle.gs_snapshots.specs.declared.falls.Falls.{Falls}
use Rattle.gs_snapshots.specs.declared.falls.RefusedGrafts.{RefusedGrafts}
use Rattle.gs_snapshots.specs.declared.falls.UnansweredIds.{UnansweredIds}
use Rattle.gs_snapshots.specs.declared.snapshot.Snapshot.{Snapshot}
use Rattle.gs_snapshots.specs.declared.summary.Summary.{Summary}
use Rattle.gs_snapshots.specs.Courses.{differ, is_below}
use Rattle.gs_snapshots.specs.Falls.{falls_by, most_told}
use Rattle.gs_snapshots.specs.Summary.{score_in}

-- ---- courses

abbrev pub crossing_if : ℤ → Snapshot → Bool → List Crossing
crossing_if bound s before =
    if differ before (is_below bound s) then record { at = s.moment.at; is_below = is_below bound s } ∷ [] else []

abbrev pub course_with : ℤ → Snapshot → Course → Course
course_with bound s c =
    record { is_below = is_below bound s; crossings = c.crossings ++ crossing_if bound s c.is_below }

-- ---- the lowest so far

abbrev pub is_lower : {A : Type 0} → (A → ℤ) → Option A → A → Bool
is_lower amount None x = true
is_lower amount (Some y) x = int_lt (amount x) (amount y)

abbrev pub lower : {A : Type 0} → (A → ℤ) → Option A → A → Option A
lower amount found x = if is_lower amount found x then Some x else found

abbrev pub lower_of_all : {A : Type 0} → (A → ℤ) → Option A → List A → Option A
lower_of_all amount found xs = fold (lower amount) found xs

-- ---- falls

abbrev pub plus : ℕ → ℕ → ℕ
plus x y = min (x + y) most_told

abbrev pub grafts_plus : RefusedGrafts → RefusedGrafts → RefusedGrafts
grafts_plus x y = record {
  explicit = plus x.explicit y.explicit;
  backoff = plus x.backoff y.backoff;
  score = plus x.score y.score;
  full = plus x.full y.full;
}

abbrev pub requests_plus : UnansweredIds → UnansweredIds → UnansweredIds
requests_plus x y = record {
  score = plus x.score y.score;
  too_often = plus x.too_often y.too_often;
  not_kept = plus x.not_kept y.not_kept;
}

abbrev pub falls_plus : Falls → Falls → Falls
falls_plus x y = record {
  graylisted = plus x.graylisted y.graylisted;
  late = plus x.late y.late;
  grafts = grafts_plus x.grafts y.grafts;
  requests = requests_plus x.requests y.requests;
  promises = plus x.promises y.promises;
}

-- ---- summaries

abbrev pub with_snapshot : Thresholds → Snapshot → Summary → Summary
with_snapshot t s x = record {
  neighbour = x.neighbour;
  zero = course_with (pos 0) s x.zero;
  gossip = course_with t.gossip_threshold s x.gossip;
  publish = course_with t.publish_threshold s x.publish;
  graylist = course_with t.graylist_threshold s x.graylist;
  lowest = lower score_in x.lowest s;
  falls = x.falls;
}

abbrev pub with_fallen : Fallen → Summary → Summary
with_fallen fallen x = record x { falls = falls_plus x.falls (falls_by x.neighbour fallen) }

-- the summaries after each thing that had no effect at an entry
abbrev pub with_each : List Fallen → List Summary → List Summary
with_each all xs = fold (λ (so_far : List Summary) (fallen : Fallen). map (with_fallen fallen) so_far) xs all
