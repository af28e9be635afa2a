-- What is seen of the peers of a run while it goes on, and what is left of them at its end.
use Rattle.std.specs.Prelude.{◌≡◌, ℕ, if◌then◌else◌, List, ◌++◌, map, reverse}
use Rattle.std.specs.List.{AllByRecursion, range_with_len}
use Rattle.gs_base.specs.declared.names.PeerNo.{PeerNo}
use Rattle.gs_base.specs.Names.{same_peer}
use Rattle.gs_rules.specs.declared.trace.Entry.{Entry}
use Rattle.gs_rules.specs.Tables.{Entries}
use Rattle.gs_report.specs.declared.finished.Finished.{Finished}
use Rattle.gs_report.specs.declared.remains.Remains.{Remains}

-- traces, with these entries after that of a peer, the oldest first
abbrev pub added : (PeerNo → Entries) → PeerNo → List Entry → PeerNo → Entries
added traces p entries q = if same_peer p q then reverse entries ++ traces q else traces q

-- what is left of a peer besides its trace
abbrev pub remains_of : Finished → Remains
remains_of life = record { refused = life.refused; meshes = life.meshes; scores = life.scores }

-- the numbers of this many peers
abbrev pub numbers_below : ℕ → List PeerNo
numbers_below count = map (λ n. record { 0 = n }) (range_with_len 0 count)

-- these are all of this many peers, by number, with these traces
pub record AreLives (count : ℕ) (traces : PeerNo → Entries) (peers : List (PeerNo × Finished)) : Type 0 where
  pub numbers : map (λ (x : PeerNo × Finished). x.0) peers ≡ numbers_below count
  pub same : AllByRecursion (λ (x : PeerNo × Finished). x.1.trace ≡ traces x.0) peers
