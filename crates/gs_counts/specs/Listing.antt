-- Rows of tables in their order, and what goes over links to a peer.
use Rattle.std.specs.Prelude.{ℕ, List, filter, fold, map, Option}
use Rattle.std.specs.List.{flat_map, range_with_len}
use Rattle.gs_base.specs.declared.names.PeerNo.{PeerNo}
use Rattle.gs_base.specs.Names.{same_peer}
use Rattle.gs_plan.specs.declared.plan.Plan.{Plan}
use Rattle.gs_seats.specs.Rounds.{neighbours, numbers}
use Rattle.gs_counts.specs.declared.counts.Counts.{Counts}
use Rattle.gs_counts.specs.declared.kind.Kind.{Kind}
use Rattle.gs_counts.specs.declared.run.LinkCounts.{LinkCounts}
use Rattle.gs_counts.specs.declared.run.PeerCounts.{PeerCounts}
use Rattle.gs_counts.specs.declared.run.RoundCounts.{RoundCounts}
use Rattle.gs_counts.specs.declared.span.Span.{Span}
use Rattle.gs_counts.specs.Rows.{count_at, plus}
use Rattle.gs_counts.specs.Standing.{peer_no}

-- rows by number
abbrev pub by_number : {R : Type 0} → (ℕ → R) → ℕ → List R
by_number row count = map row (range_with_len 0 count)

-- ---- peers and rounds

abbrev pub peer_row : (ℕ → Counts) → ℕ → PeerCounts
peer_row row n = record { peer = peer_no n; counts = row n }

abbrev pub round_row : (ℕ → Counts) → (ℕ → Option Span) → ℕ → RoundCounts
round_row row span r = record { round = r; counts = row r; members = span r }

-- ---- links

-- the links from a peer to others
abbrev pub links_by : PeerNo → (PeerNo → Counts) → List PeerNo → List LinkCounts
links_by p row qs = map (λ q. record { from = p; to = q; counts = row q }) qs

-- the links from each peer to its neighbours
abbrev pub all_links : Plan → (PeerNo → PeerNo → Counts) → List LinkCounts
all_links plan row = flat_map (λ p. links_by p (row p) (neighbours plan p)) (numbers plan)

-- ---- what goes over links to a peer

-- the links among these that lead to a peer
abbrev pub links_to : PeerNo → List LinkCounts → List LinkCounts
links_to p links = filter (λ (link : LinkCounts). same_peer link.to p) links

-- a sum with the numbers of a kind in these rows added, at most the greatest number that is given
abbrev pub with_links : Kind → ℕ → List LinkCounts → ℕ
with_links kind sum links = fold (λ sum (link : LinkCounts). plus sum (count_at link.counts kind)) sum links

-- how often a kind went over these links to a peer, or how much of it
abbrev pub over_links : List LinkCounts → PeerNo → Kind → ℕ
over_links links p kind = with_links kind 0 (links_to p links)
