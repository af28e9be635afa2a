-- How a peer's trace is summarized entry by entry.
use Rattle.std.specs.Prelude.{◌≡◌, ℕ, Bool, true, false, codes, List, [], ◌∷◌, ◌++◌, if◌then◌else◌, fold, map, reverse}
use Rattle.gs_base.specs.declared.names.PeerNo.{PeerNo}
use Rattle.gs_plan.specs.declared.plan.Plan.{Plan}
use Rattle.gs_report.specs.declared.finished.Finished.{Finished}
use Rattle.gs_rules.specs.declared.trace.Entry.{Entry}
use Rattle.gs_rules.specs.Tables.{Entries}
use Rattle.gs_trace.specs.declared.wanted.RoundSpan.{RoundSpan}
use Rattle.gs_snapshots.specs.declared.moments.Moment.{Moment}
use Rattle.gs_snapshots.specs.declared.summary.Summary.{Summary}
use Rattle.gs_snapshots.specs.declared.summaries.Summed.{Summed}
use Rattle.gs_snapshots.specs.Noting.{with_snapshot}
use Rattle.gs_snapshots.specs.Scores.{is_wanted_peer}
use Rattle.gs_snapshots.specs.TraceSummaries.{snapshot_at, summary_in}
use Rattle.gs_snapshots.specs.SummaryText.{summaries_of_peer}
use Rattle.gs_snapshots.specs.Wishes.{Wishes}

-- the summaries of these neighbours, after this trace
abbrev pub summaries_in : Summed → List PeerNo → Entries → List Summary
summaries_in x qs L = map (summary_in x.rounds x.plan.now x.peer L) qs

-- a neighbour's summary with its snapshot at the next moment
abbrev pub with_moment : Plan → PeerNo → Moment × Entries → Summary → Summary
with_moment plan p m s = with_snapshot plan.params.thresholds (snapshot_at plan p s.neighbour m) s

-- the summaries with the snapshots at these moments, one after the other
abbrev pub with_moments : Summed → List (Moment × Entries) → List Summary → List Summary
with_moments x ms all =
    fold (λ (so_far : List Summary) (m : Moment × Entries). map (with_moment x.plan.now x.peer m) so_far) all ms

-- The entries v.0 of a trace were seen, the newest first, and the entries v.1 were left. If the old summaries are those of
-- v.0, then the new summaries are those of the whole trace.
abbrev pub SumsUp : Summed → Entries × List Entry → (old new : List Summary) → Type 0
SumsUp x v old new =
    (qs : List PeerNo) → old ≡ summaries_in x qs v.0 → new ≡ summaries_in x qs (reverse v.1 ++ v.0)

-- the summaries of a peer, if it is wanted
abbrev pub summaries_if : Wishes → Plan → PeerNo × Finished → List ℕ
summaries_if w plan x = if is_wanted_peer w plan x then summaries_of_peer w plan x else []

-- a text is not empty
abbrev pub is_text : List ℕ → Bool
is_text [] = false
is_text (byte ∷ text) = true

-- the line that says that there is nothing to report, unless something was reported
abbrev pub line_unless : Bool → List ℕ
line_unless true = []
line_unless false = codes "no neighbour scored below 0, and nothing came to nothing\n"
