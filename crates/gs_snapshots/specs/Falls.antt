-- How much of what a neighbour sent or promised had no effect.
use Rattle.std.specs.Prelude.{ℕ, min, if◌then◌else◌, List, sum_by}
use Rattle.gs_base.specs.declared.names.PeerNo.{PeerNo}
use Rattle.gs_base.specs.Names.{same_peer}
use Rattle.gs_rules.specs.declared.fallen.Fallen.{Fallen}
use Rattle.gs_rules.specs.declared.fallen.Fallen.TheVariants.{Graylisted, Late, Graft, Request, Broken}
use Rattle.gs_rules.specs.declared.fallen.NoAnswer.{NoAnswer}
use Rattle.gs_rules.specs.declared.fallen.NoAnswer.TheVariants.{Ignored, NotKept, TooOften}
use Rattle.gs_rules.specs.declared.outcome.GraftRefusal.{GraftRefusal}
use Rattle.gs_rules.specs.declared.outcome.GraftRefusal.TheVariants.{Explicit, TooSoon, Negative, Full}
use Rattle.gs_snapshots.specs.declared.falls.Falls.{Falls}
use Rattle.gs_snapshots.specs.declared.falls.RefusedGrafts.{RefusedGrafts}
use Rattle.gs_snapshots.specs.declared.falls.UnansweredIds.{UnansweredIds}

-- ---- one thing that had no effect

abbrev pub no_grafts : RefusedGrafts
no_grafts = record { explicit = 0; backoff = 0; score = 0; full = 0 }

abbrev pub one_graft : GraftRefusal → RefusedGrafts
one_graft Explicit = record { explicit = 1; backoff = 0; score = 0; full = 0 }
one_graft TooSoon = record { explicit = 0; backoff = 1; score = 0; full = 0 }
one_graft Negative = record { explicit = 0; backoff = 0; score = 1; full = 0 }
one_graft Full = record { explicit = 0; backoff = 0; score = 0; full = 1 }

abbrev pub no_requests : UnansweredIds
no_requests = record { score = 0; too_often = 0; not_kept = 0 }

abbrev pub one_request : NoAnswer → UnansweredIds
one_request Ignored = record { score = 1; too_often = 0; not_kept = 0 }
one_request TooOften = record { score = 0; too_often = 1; not_kept = 0 }
one_request NotKept = record { score = 0; too_often = 0; not_kept = 1 }

abbrev pub no_falls : Falls
no_falls = record { graylisted = 0; late = 0; grafts = no_grafts; requests = no_requests; promises = 0 }

abbrev pub falls_with : Fallen → Falls
falls_with (Graylisted q) =
    record { graylisted = 1; late = 0; grafts = no_grafts; requests = no_requests; promises = 0 }
falls_with (Late q) = record { graylisted = 0; late = 1; grafts = no_grafts; requests = no_requests; promises = 0 }
falls_with (Graft q t why) =
    record { graylisted = 0; late = 0; grafts = one_graft why; requests = no_requests; promises = 0 }
falls_with (Request q id why) =
    record { graylisted = 0; late = 0; grafts = no_grafts; requests = one_request why; promises = 0 }
falls_with (Broken p) = record { graylisted = 0; late = 0; grafts = no_grafts; requests = no_requests; promises = 1 }

-- the neighbour that sent or promised it
abbrev pub of_whom : Fallen → PeerNo
of_whom (Graylisted q) = q
of_whom (Late q) = q
of_whom (Graft q t why) = q
of_whom (Request q id why) = q
of_whom (Broken p) = p.from

-- the counts of one thing, if this neighbour sent or promised it
abbrev pub falls_by : PeerNo → Fallen → Falls
falls_by q fallen = if same_peer (of_whom fallen) q then falls_with fallen else no_falls

-- ---- everything that had no effect

-- the greatest number that is stated
abbrev pub most_told : ℕ
most_told = 18_446_744_073_709_551_615

-- the sum of one count over everything, or the greatest number that is stated if the sum is above it
abbrev pub total_of : (Falls → ℕ) → PeerNo → List Fallen → ℕ
total_of number q all = min (sum_by (λ fallen. number (falls_by q fallen)) all) most_told

abbrev pub grafts_of : PeerNo → List Fallen → RefusedGrafts
grafts_of q all = record {
  explicit = total_of (λ falls. falls.grafts.explicit) q all;
  backoff = total_of (λ falls. falls.grafts.backoff) q all;
  score = total_of (λ falls. falls.grafts.score) q all;
  full = total_of (λ falls. falls.grafts.full) q all;
}

abbrev pub requests_of : PeerNo → List Fallen → UnansweredIds
requests_of q all = record {
  score = total_of (λ falls. falls.requests.score) q all;
  too_often = total_of (λ falls. falls.requests.too_often) q all;
  not_kept = total_of (λ falls. falls.requests.not_kept) q all;
}

-- the counts of what a neighbour sent or promised, among everything that had no effect
abbrev pub falls_of : PeerNo → List Fallen → Falls
falls_of q all = record {
  graylisted = total_of (λ falls. falls.graylisted) q all;
  late = total_of (λ falls. falls.late) q all;
  grafts = grafts_of q all;
  requests = requests_of q all;
  promises = total_of (λ falls. falls.promises) q all;
}
