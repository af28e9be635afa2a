-- The rows of tables, and what they show.
use Rattle.std.proofs.Common.{◌≡◌, ◌<◌, ℕ, ℤ, ◌+◌, List, [], ◌∷◌, length, map, refl, ap, ap₂, ◌∙◌}
use Rattle.std.specs.Prelude.{Option, None, Some, filter, unwrap_or}
use Rattle.std.specs.BTreeMap.{BTreeMap}
use Rattle.std.specs.List.{AllZip}
use Rattle.gs_plan.specs.declared.plan.Plan.{Plan}
use Rattle.gs_reach.specs.declared.chosen.Chosen.{Chosen}
use Rattle.gs_base.specs.declared.names.PeerNo.{PeerNo}
use Rattle.gs_seats.specs.Rounds.{peer_no}
use Rattle.gs_opinions.specs.declared.opinion.Lowest.{Lowest}
use Rattle.gs_opinions.specs.declared.opinion.Opinion.{Opinion}
use Rattle.gs_opinions.specs.declared.tables.GroupRounds.{GroupRounds}
use Rattle.gs_opinions.specs.declared.tables.Tables.{Tables}
use Rattle.gs_opinions.specs.Cells.{by_number, cell_at}
use Rattle.gs_opinions.specs.Listing.{all_rows, groups_at, round_at, rows_at, rows_by}
use Rattle.gs_opinions.specs.Noting.{Shows, ShowsGroup, ShowsPairs, ShowsRow, lowest_of}
use Rattle.gs_opinions.specs.Runs.{is_about, lowest_between, lowest_in_round, pair_row, pairs_by, pairs_of, round_row, rounds_of}
use Rattle.gs_opinions.proofs.Numbered.{all_same, flat_same, got}
use Rattle.gs_opinions.proofs.Zipped.{stands}

module _ (plan : Plan) (os : List Opinion) where
  abbrev count : ℕ
  count = length plan.peers

  row_listed : (p : PeerNo) (row : BTreeMap PeerNo Lowest) → ShowsRow os p row → rows_by p row count ≡ pairs_by plan os p
  row_listed p row shows =
      flat_same (λ m. pair_row p (peer_no m) (lowest_of row (peer_no m))) (λ q. pair_row p q (lowest_between os p q)) count
      (λ m low. ap (pair_row p (peer_no m)) (shows (peer_no m)))

  pub pairs_listed : (rows : List (BTreeMap PeerNo Lowest)) → ShowsPairs plan rows os → all_rows count rows ≡ pairs_of plan os
  pairs_listed rows shows = flat_same (rows_at rows count) (pairs_by plan os) count at
    where
      at : (n : ℕ) → n < count → rows_at rows count n ≡ pairs_by plan os (peer_no n)
      at n low =
          let found = stands (ShowsRow os) count n low rows shows in
          ap (λ (o : Option (BTreeMap PeerNo Lowest)). elim o [ None ↦ [] | Some row ↦ rows_by (peer_no n) row count ]) found.1
          ∙ row_listed (peer_no n) found.0 found.2

  groups_listed : (r : ℕ) → r < plan.rounds + 1 → (groups : List Chosen) (xs : List GroupRounds) → AllZip (ShowsGroup plan os) groups xs
      → groups_at r xs ≡ map (λ (group : Chosen). lowest_in_round plan (filter (is_about group) os) r) groups
  groups_listed r low [] [] h = refl
  groups_listed r low [] (x ∷ xs) h = absurd h
  groups_listed r low (group ∷ groups) [] h = absurd h
  groups_listed r low (group ∷ groups) (x ∷ xs) h =
      ap₂ (λ (score : Option ℤ) (scores : List (Option ℤ)). score ∷ scores)
      (ap (λ (cells : List (Option ℤ)). cell_at cells r) h.0.rounds ∙ ap (λ (o : Option (Option ℤ)). unwrap_or o None) (got (lowest_in_round plan (filter (is_about group) os)) (plan.rounds + 1) r low))
      (groups_listed r low groups xs h.1)

  round_listed : (groups : List Chosen) (tables : Tables) → Shows plan groups tables os → (r : ℕ) → r < plan.rounds + 1 → round_at tables r ≡ round_row plan groups os r
  round_listed groups tables shows r low = λ i. record {
    round = r;
    lowest = (ap (λ (cells : List (Option ℤ)). cell_at cells r) shows.rounds
        ∙ ap (λ (o : Option (Option ℤ)). unwrap_or o None) (got (lowest_in_round plan os) (plan.rounds + 1) r low)) i;
    groups = groups_listed r low groups tables.groups.items shows.groups i;
  }

  pub rounds_listed : (groups : List Chosen) (tables : Tables) → Shows plan groups tables os → by_number (round_at tables) (plan.rounds + 1) ≡ rounds_of plan groups os
  rounds_listed groups tables shows =
      all_same (round_at tables) (round_row plan groups os) (plan.rounds + 1) (round_listed groups tables shows)
