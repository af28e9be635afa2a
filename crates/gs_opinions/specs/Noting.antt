-- How one more opinion changes tables, and what tables show.
use Rattle.std.specs.Prelude.{◌≡◌, ◌<◌, ℕ, ℤ, ◌+◌, int_lt, Bool, true, if◌then◌else◌, List, filter, None, Option, Some, slice_get}
use Rattle.std.specs.BTreeMap.{BTreeMap}
use Rattle.std.specs.List.{AllZip}
use Rattle.std.specs.Map.{lookup}
use Rattle.std.specs.Ordering.{is_eq, nat_cmp}
use Rattle.std.specs.declared.cmp.Ordering.{Ordering}
use Rattle.gs_base.specs.declared.names.PeerNo.{PeerNo}
use Rattle.gs_plan.specs.declared.plan.Plan.{Plan}
use Rattle.gs_reach.specs.declared.chosen.Chosen.{Chosen}
use Rattle.gs_reach.specs.Chosen.{is_chosen}
use Rattle.gs_seats.specs.Rounds.{numbers, peer_no}
use Rattle.gs_opinions.specs.declared.members.Members.{Members}
use Rattle.gs_opinions.specs.declared.opinion.Lowest.{Lowest}
use Rattle.gs_opinions.specs.declared.opinion.Opinion.{Opinion}
use Rattle.gs_opinions.specs.declared.tables.GroupRounds.{GroupRounds}
use Rattle.gs_opinions.specs.declared.tables.Tables.{Tables}
use Rattle.gs_opinions.specs.Cells.{by_number, changed_at}
use Rattle.gs_opinions.specs.Runs.{is_about, lowest_between, lowest_in, lowest_in_round}

-- ---- the lowest so far

abbrev pub is_lower : {A : Type 0} → (A → ℤ) → Option A → A → Bool
is_lower amount None x = true
is_lower amount (Some y) x = int_lt (amount x) (amount y)

abbrev pub lower : {A : Type 0} → (A → ℤ) → Option A → A → Option A
lower amount found x = if is_lower amount found x then Some x else found

-- of what one peer scores another, with one more opinion
abbrev pub lower_opinion : Opinion → Option Lowest → Option Lowest
lower_opinion o found = lower (λ (x : Lowest). x.score) found (lowest_in o)

-- of a round, with one more score
abbrev pub lower_score : ℤ → Option ℤ → Option ℤ
lower_score score found = lower (λ z. z) found score

-- ---- tables

-- the order of peers is that of their numbers
abbrev pub peer_order : PeerNo → PeerNo → Ordering
peer_order p q = nat_cmp p.0 q.0

-- the lowest that a peer scores another, by the first one's row
abbrev pub lowest_of : BTreeMap PeerNo Lowest → PeerNo → Option Lowest
lowest_of row q = lookup (λ r. is_eq (peer_order q r)) row.entries

abbrev pub lowered_in_round : ℕ → ℤ → List (Option ℤ) → List (Option ℤ)
lowered_in_round round score cells = changed_at (lower_score score) cells round

-- a peer is one of the members: the flag of its number says so, or the group does where the number has no flag
abbrev pub is_member : Members → PeerNo → Bool
is_member members q = elim (slice_get members.flags q.0) [ None ↦ is_chosen members.group.now q | Some flag ↦ flag ]

-- the flags of a group
abbrev pub member_flags : Chosen → ℕ → List Bool
member_flags group count = by_number (λ n. is_chosen group (peer_no n)) count

-- the rounds of a group, with one more opinion
abbrev pub lowered_group : ℕ → Opinion → GroupRounds → GroupRounds
lowered_group round o x =
    if is_member x.members o.of then record x { rounds = lowered_in_round round o.score x.rounds } else x

-- ---- what they show

-- the row of a peer shows these opinions
abbrev pub ShowsRow : List Opinion → PeerNo → BTreeMap PeerNo Lowest → Type 0
ShowsRow os p row = (q : PeerNo) → lowest_of row q ≡ lowest_between os p q

-- so do the rows of all peers, by number
abbrev pub ShowsPairs : Plan → List (BTreeMap PeerNo Lowest) → List Opinion → Type 0
ShowsPairs plan rows os = AllZip (ShowsRow os) (numbers plan) rows

abbrev pub round_cells : Plan → List Opinion → List (Option ℤ)
round_cells plan os = by_number (lowest_in_round plan os) (plan.rounds + 1)

-- The rounds of a group show these opinions.
pub record ShowsGroup (plan : Plan) (os : List Opinion) (group : Chosen) (x : GroupRounds) : Type 0 where
  pub members : (q : PeerNo) → is_member x.members q ≡ is_chosen group q
  pub rounds : x.rounds ≡ round_cells plan (filter (is_about group) os)

-- The tables show these opinions.
pub record Shows (plan : Plan) (chosen : List Chosen) (tables : Tables) (os : List Opinion) : Type 0 where
  pub lasts : 0 < plan.round_ms
  pub round_ms : tables.round_ms ≡ plan.round_ms
  pub pairs : ShowsPairs plan tables.pairs.items os
  pub rounds : tables.rounds ≡ round_cells plan os
  pub groups : AllZip (ShowsGroup plan os) chosen tables.groups.items
