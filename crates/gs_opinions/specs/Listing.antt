-- Rows of the tables in their order.
use Rattle.std.specs.Prelude.{ℕ, ℤ, nat_lt, if◌then◌else◌, List, [], ◌∷◌, map, None, Option, Some, slice_get}
use Rattle.std.specs.BTreeMap.{BTreeMap}
use Rattle.std.specs.List.{flat_map, range_with_len}
use Rattle.gs_base.specs.declared.names.PeerNo.{PeerNo}
use Rattle.gs_seats.specs.Rounds.{peer_no}
use Rattle.gs_opinions.specs.declared.opinion.Lowest.{Lowest}
use Rattle.gs_opinions.specs.declared.run.PairOpinion.{PairOpinion}
use Rattle.gs_opinions.specs.declared.run.RoundOpinions.{RoundOpinions}
use Rattle.gs_opinions.specs.declared.tables.GroupRounds.{GroupRounds}
use Rattle.gs_opinions.specs.declared.tables.Tables.{Tables}
use Rattle.gs_opinions.specs.Cells.{cell_at}
use Rattle.gs_opinions.specs.Noting.{lowest_of}
use Rattle.gs_opinions.specs.Runs.{pair_row}

-- ---- pairs

-- a row, if it is about one of this many peers
abbrev pub pair_below : ℕ → PairOpinion → List PairOpinion
pair_below count pair = if nat_lt pair.of.0 count then pair ∷ [] else []

-- what a peer scores each of this many peers, by number
abbrev pub rows_by : PeerNo → BTreeMap PeerNo Lowest → ℕ → List PairOpinion
rows_by p row count = flat_map (λ m. pair_row p (peer_no m) (lowest_of row (peer_no m))) (range_with_len 0 count)

-- what the peer with a number scores them, if the table has a row for it
abbrev pub rows_at : List (BTreeMap PeerNo Lowest) → ℕ → ℕ → List PairOpinion
rows_at rows count n = elim (slice_get rows n) [ None ↦ [] | Some row ↦ rows_by (peer_no n) row count ]

abbrev pub all_rows : ℕ → List (BTreeMap PeerNo Lowest) → List PairOpinion
all_rows count rows = flat_map (rows_at rows count) (range_with_len 0 count)

-- ---- rounds

abbrev pub groups_at : ℕ → List GroupRounds → List (Option ℤ)
groups_at round groups = map (λ (group : GroupRounds). cell_at group.rounds round) groups

abbrev pub round_at : Tables → ℕ → RoundOpinions
round_at tables round = record {
  round = round;
  lowest = cell_at tables.rounds round;
  groups = groups_at round tables.groups.items;
}
