-- Over a link without raw bytes as many RPCs came as went out.
use Rattle.std.proofs.Common.{◌≡◌, ◌≤◌, ◌<◌, ℕ, zero, suc, ◌+◌, min, true, List, [], ◌∷◌, length, map, Option, Some, refl, sym, ap, ap₂, subst, ◌∙◌, arith}
use Rattle.std.specs.Prelude.{option_map, slice_get, unwrap_or}
use Rattle.std.specs.List.{flat_map, range_with_len, sum_by, AllByRecursion}
use Rattle.gs_base.specs.declared.names.PeerNo.{PeerNo}
use Rattle.gs_params.specs.Picks.{IsAscending}
use Rattle.gs_params.proofs.Picking.{distinct_from_ascending}
use Rattle.gs_plan.specs.declared.plan.Plan.{Plan}
use Rattle.gs_wire.specs.Codec.{codec}
use Rattle.gs_wire.proofs.RoundTrip.{all-append}
use Rattle.gs_rules.specs.Hearing.{Spell}
use Rattle.gs_rules.specs.Saying.{SaysOnlyFrames, bytes_of, handled, out}
use Rattle.gs_rules.specs.Tables.{Entries}
use Rattle.gs_rules.proofs.Handled.{StandsOnce, distinct_once}
use Rattle.gs_rules.proofs.Scripts.{script_says_frames}
use Rattle.gs_reach.specs.Chosen.{is_chosen}
use Rattle.gs_reach.specs.declared.chosen.Chosen.{Chosen}
use Rattle.gs_reach.specs.declared.chosen.Chosen.TheVariants.{Any}
use Rattle.gs_report.specs.declared.finished.Finished.{Finished}
use Rattle.gs_report.specs.declared.report.Report.{Report}
use Rattle.gs_seats.specs.Reports.{IsReport}
use Rattle.gs_seats.specs.Rounds.{IsLifeInRun, neighbours, numbers, peer_in, peer_no, said_to, seat_in, trace_of}
use Rattle.gs_seats.proofs.ByNumber.{at_number}
use Rattle.gs_seats.proofs.Joined.{IsJoined, joined_back, neighbours_joined, of_joined}
use Rattle.gs_seats.proofs.NeighbourLists.{links_ascend, links_in}
use Rattle.gs_counts.specs.declared.happening.Happening.{Happening}
use Rattle.gs_counts.specs.declared.kind.Kind.TheVariants.{RpcsGraylisted, RpcsHeard, RpcsLate, RpcsSent}
use Rattle.gs_counts.specs.declared.run.LinkCounts.{LinkCounts}
use Rattle.gs_counts.specs.Exchanges.{AllCame, CameInRow, IsWhole, PutsOnlyFrames, over_link, rpcs_that_came}
use Rattle.gs_counts.specs.Kinds.{all_kinds}
use Rattle.gs_counts.specs.Rows.{amount_in, count_at, most_told, plus, row_of, total}
use Rattle.gs_counts.specs.Runs.{chosen_peers, happenings, link_counts, peer_happenings, run_counts}
use Rattle.gs_counts.specs.Standing.{goes_over, link_of}
use Rattle.gs_counts.specs.Sums.{linked}
use Rattle.gs_counts.proofs.Adding.{all_add, all_come, sum_of_each}
use Rattle.gs_counts.proofs.Came.{came, peer_came}
use Rattle.gs_counts.proofs.Framed.{framed, spelled_are_framed}
use Rattle.gs_counts.proofs.OnePeer.{one_chosen}
use Rattle.gs_counts.proofs.Went.{peer_went, went}

-- ---- each link

from_one : {A : Type 0} (P : A → Type 0) (Q : PeerNo → Type 0) (f : PeerNo → A) → ((q : PeerNo) → Q q → P (f q)) → (qs : List PeerNo) → AllByRecursion Q qs → AllByRecursion P (map f qs)
from_one P Q f holds [] all = tt
from_one P Q f holds (q ∷ qs) all = (holds q all.0, from_one P Q f holds qs all.1)

-- what holds of each two that are joined
module _ (plan : Plan) {A : Type 0} (P : A → Type 0) (f : PeerNo → PeerNo → A) (holds : (p q : PeerNo) → p.0 < length plan.peers → IsJoined plan p q → P (f p q)) where
  abbrev all_of : List PeerNo → List A
  all_of ps = flat_map (λ p. map (f p) (neighbours plan p)) ps

  each_from : (a n : ℕ) → a + n ≤ length plan.peers → AllByRecursion P (all_of (map peer_no (range_with_len a n)))
  each_from a zero fits = tt
  each_from a (suc n) fits =
      let p : PeerNo = peer_no a in
      all-append P (map (f p) (neighbours plan p)) (all_of (map peer_no (range_with_len (a + 1) n)))
      (from_one P (IsJoined plan p) (f p) (λ q joined. holds p q (omega (arith, fits)) joined) (neighbours plan p) (neighbours_joined plan p))
      (each_from (a + 1) n (omega (arith, fits)))

  each_link : AllByRecursion P (all_of (numbers plan))
  each_link = each_from 0 (length plan.peers) (omega arith)

-- a neighbour stands in the list of neighbours, and once
stands_once : (plan : Plan) (p q : PeerNo) → IsJoined plan p q → StandsOnce q (neighbours plan p)
stands_once plan p q joined =
    let ascending : IsAscending (neighbours plan p) = subst IsAscending (links_in plan p) (links_ascend plan p) in
    of_joined (λ (r : PeerNo). StandsOnce r (neighbours plan p)) plan p q joined (distinct_once (neighbours plan p) (distinct_from_ascending (neighbours plan p) ascending))

-- ---- a report

trace_is : (lives : List Finished) (p : PeerNo) (life : Finished) → slice_get lives p.0 ≡ Some life → trace_of lives p ≡ life.trace
trace_is lives p life at = ap (λ (found : Option Finished). unwrap_or (option_map (λ (f : Finished). f.trace) found) []) at

-- A life among all, at its number.
record Stands (plan : Plan) (lives : List Finished) (p : PeerNo) (life : Finished) : Type 0 where
  below : p.0 < length plan.peers
  at : slice_get lives p.0 ≡ Some life
  holds : IsLifeInRun plan lives p life

module _ (plan : Plan) (report : Report) (is : IsReport plan report) where
  abbrev xs : List (PeerNo × Finished)
  xs = report.peers.items

  abbrev lives : List Finished
  lives = map (λ x. x.1) xs

  life_at : (p : PeerNo) → p.0 < length plan.peers → (life : Finished) × Stands plan lives p life
  life_at p below =
      let (life, at, holds) = at_number (IsLifeInRun plan lives) plan p lives below is.run in
      (life, record { below = below; at = at; holds = holds })

  -- what some peers' traces count
  module _ (of : Chosen) where
    abbrev hs : List Happening
    hs = happenings plan (chosen_peers of xs)

    all_came : (p q : PeerNo) (theirs : Finished) → is_chosen of q ≡ true → Stands plan lives q theirs → rpcs_that_came (over_link p q hs) ≡ length (handled theirs.trace p)
    all_came p q theirs chosen there =
        all_come (λ (h : Happening). goes_over p q (link_of h)) hs
        ∙ sum_of_each (came p q) (peer_happenings plan) (chosen_peers of xs)
        ∙ one_chosen (λ (x : PeerNo × Finished). sum_by (came p q) (peer_happenings plan x)) of (λ (f : Finished). length (handled f.trace p)) q chosen (peer_came p q plan) (length plan.peers) xs theirs there.below is.numbers_are there.at

    all_went : (p q : PeerNo) (mine : Finished) → StandsOnce q (neighbours plan p) → is_chosen of p ≡ true → Stands plan lives p mine → amount_in (over_link p q hs) RpcsSent ≡ length (framed mine.trace q)
    all_went p q mine once chosen here =
        all_add (λ (h : Happening). goes_over p q (link_of h)) RpcsSent hs
        ∙ sum_of_each (went p q) (peer_happenings plan) (chosen_peers of xs)
        ∙ one_chosen (λ (x : PeerNo × Finished). sum_by (went p q) (peer_happenings plan x)) of (λ (f : Finished). length (framed f.trace q)) p chosen (peer_went p q plan once) (length plan.peers) xs mine here.below is.numbers_are here.at

    over_one : (p q : PeerNo) → p.0 < length plan.peers → IsJoined plan p q → is_chosen of p ≡ true → is_chosen of q ≡ true → PutsOnlyFrames plan p q → AllCame hs p q
    over_one p q below joined sends hears quiet =
        let (mine, here) = life_at p below in
        let (theirs, there) = life_at q joined.0 in
        let frames : SaysOnlyFrames q mine.trace = script_says_frames (seat_in plan p) (said_to lives p) q mine.trace mine.refused here.holds.keeps here.holds.legal quiet in
        let spelled : Spell (bytes_of (said_to lives q p)) (handled theirs.trace p) =
        of_joined (λ (r : PeerNo). Spell (bytes_of (said_to lives q r)) (handled theirs.trace r)) plan q p (joined_back plan p q below joined) there.holds.exchanged in
        let spell : Spell (bytes_of (out codec mine.trace q)) (handled theirs.trace p) =
        subst (λ (L : Entries). Spell (bytes_of (out codec L q)) (handled theirs.trace p)) (trace_is lives p mine here.at) spelled in
        all_came p q theirs hears there
        ∙ ap length (spelled_are_framed (peer_in plan p) mine.trace q (handled theirs.trace p) here.holds.legal frames spell)
        ∙ sym (all_went p q mine (stands_once plan p q joined) sends here)

-- ---- all peers

any_peers : (xs : List (PeerNo × Finished)) → chosen_peers Any xs ≡ xs
any_peers [] = refl
any_peers (x ∷ xs) = ap (λ (ys : List (PeerNo × Finished)). x ∷ ys) (any_peers xs)

pub over_each : (plan : Plan) (report : Report) → IsReport plan report → AllByRecursion (λ (link : PeerNo × PeerNo). PutsOnlyFrames plan link.0 link.1 → AllCame (happenings plan report.peers.items) link.0 link.1) (linked plan)
over_each plan report is =
    each_link plan (λ (link : PeerNo × PeerNo). PutsOnlyFrames plan link.0 link.1 → AllCame (happenings plan report.peers.items) link.0 link.1) (λ (p q : PeerNo). (p, q))
    (λ p q below joined quiet.
    subst (λ (xs : List (PeerNo × Finished)). AllCame (happenings plan xs) p q) (any_peers report.peers.items)
    (over_one plan report is Any p q below joined refl refl quiet))

-- ---- rows

counts_heard : (gs : List Happening) → count_at (row_of gs) RpcsHeard ≡ total gs RpcsHeard
unfolding all_kinds
counts_heard gs = refl

counts_graylisted : (gs : List Happening) → count_at (row_of gs) RpcsGraylisted ≡ total gs RpcsGraylisted
unfolding all_kinds
counts_graylisted gs = refl

counts_late : (gs : List Happening) → count_at (row_of gs) RpcsLate ≡ total gs RpcsLate
unfolding all_kinds
counts_late gs = refl

counts_sent : (gs : List Happening) → count_at (row_of gs) RpcsSent ≡ total gs RpcsSent
unfolding all_kinds
counts_sent gs = refl

capped : (a b c d most : ℕ) → a + b + c ≡ d → min (min (min a most + min b most) most + min c most) most ≡ min d most
capped a b c d most all = omega (arith, all)

in_row : (p q : PeerNo) (gs : List Happening) → AllCame gs p q → CameInRow (link_counts gs p q).counts
in_row p q gs all =
    let row : List Happening = over_link p q gs in
    ap₂ plus (ap₂ plus (counts_heard row) (counts_graylisted row)) (counts_late row)
    ∙ capped (amount_in row RpcsHeard) (amount_in row RpcsGraylisted) (amount_in row RpcsLate) (amount_in row RpcsSent) most_told all
    ∙ sym (counts_sent row)

pub in_each_row : (plan : Plan) (report : Report) (of : Chosen) → IsReport plan report → AllByRecursion (λ (row : LinkCounts). IsWhole of row → PutsOnlyFrames plan row.from row.to → CameInRow row.counts) (run_counts plan report of).links
in_each_row plan report of is =
    each_link plan (λ (row : LinkCounts). IsWhole of row → PutsOnlyFrames plan row.from row.to → CameInRow row.counts) (link_counts (happenings plan (chosen_peers of report.peers.items)))
    (λ p q below joined whole quiet.
    in_row p q (happenings plan (chosen_peers of report.peers.items)) (over_one plan report is of p q below joined whole.0 whole.1 quiet))
