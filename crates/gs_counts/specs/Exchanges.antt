-- What goes out over a link comes in at its other end.
use Rattle.std.specs.Prelude.{◌≡◌, ℕ, ◌+◌, true, List, filter}
use Rattle.gs_base.specs.declared.names.PeerNo.{PeerNo}
use Rattle.gs_plan.specs.declared.plan.Plan.{Plan}
use Rattle.gs_rules.specs.Rounds.{PutsNoBytes}
use Rattle.gs_reach.specs.Chosen.{is_chosen}
use Rattle.gs_reach.specs.declared.chosen.Chosen.{Chosen}
use Rattle.gs_seats.specs.Rounds.{seat_in}
use Rattle.gs_counts.specs.declared.counts.Counts.{Counts}
use Rattle.gs_counts.specs.declared.happening.Happening.{Happening}
use Rattle.gs_counts.specs.declared.kind.Kind.TheVariants.{RpcsGraylisted, RpcsHeard, RpcsLate, RpcsSent}
use Rattle.gs_counts.specs.declared.run.LinkCounts.{LinkCounts}
use Rattle.gs_counts.specs.Rows.{amount_in, count_at, plus}
use Rattle.gs_counts.specs.Standing.{goes_over, link_of}

-- the happenings over the link from one peer to another, as its row has them
abbrev pub over_link : PeerNo → PeerNo → List Happening → List Happening
over_link p q hs = filter (λ h. goes_over p q (link_of h)) hs

-- the RPCs that came, regardless of what became of them
abbrev pub rpcs_that_came : List Happening → ℕ
rpcs_that_came hs = amount_in hs RpcsHeard + amount_in hs RpcsGraylisted + amount_in hs RpcsLate

-- no line of a peer's script puts raw bytes on the link to another peer
abbrev pub PutsOnlyFrames : Plan → PeerNo → PeerNo → Type 0
PutsOnlyFrames plan p q = PutsNoBytes q (seat_in plan p).lines

-- as many RPCs came over a link as went out
abbrev pub AllCame : List Happening → PeerNo → PeerNo → Type 0
AllCame hs p q = rpcs_that_came (over_link p q hs) ≡ amount_in (over_link p q hs) RpcsSent

-- ---- rows

-- both ends of its link are counted
abbrev pub IsWhole : Chosen → LinkCounts → Type 0
IsWhole of row = (is_chosen of row.from ≡ true) × (is_chosen of row.to ≡ true)

-- the same in a row, whose numbers are at most the greatest one that is given
abbrev pub CameInRow : Counts → Type 0
CameInRow counts =
    plus (plus (count_at counts RpcsHeard) (count_at counts RpcsGraylisted)) (count_at counts RpcsLate)
    ≡ count_at counts RpcsSent
