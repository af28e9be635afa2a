-- One opinion more: what is the lowest then.
use Rattle.std.proofs.Common.{◌≡◌, ℕ, ◌+◌, Bool, true, false, if◌then◌else◌, List, [], ◌∷◌, ◌++◌, Option, None, Some, filter, refl, sym, ap, ◌∙◌, append-nil}
use Rattle.std.specs.Prelude.{◌&&◌, int_lt, option_map}
use Rattle.std.specs.BTreeMap.{BTreeMap}
use Rattle.std.proofs.lemmas.List.Elements.{filter-append}
use Rattle.gs_base.specs.declared.names.PeerNo.{PeerNo}
use Rattle.gs_base.specs.Names.{same_peer}
use Rattle.gs_plan.specs.declared.plan.Plan.{Plan}
use Rattle.gs_reach.specs.declared.chosen.Chosen.{Chosen}
use Rattle.gs_opinions.specs.declared.opinion.Lowest.{Lowest}
use Rattle.gs_opinions.specs.declared.opinion.Opinion.{Opinion}
use Rattle.gs_opinions.specs.Lowest.{lowest}
use Rattle.gs_opinions.specs.Noting.{ShowsRow, lower, lower_opinion, lower_score, lowered_in_round, lowest_of, round_cells}
use Rattle.gs_opinions.specs.Runs.{is_about, is_between, is_in, lowest_between, lowest_in, lowest_in_round, round_of, score_in}
use Rattle.gs_opinions.proofs.Least.{lowest_more}
use Rattle.gs_opinions.proofs.Places.{changed}

-- ---- the lowest of those that pass a test

module _ {B : Type 0} (tell : Opinion → B) (step : Opinion → Option B → Option B) (tells : (found : Option Opinion) (o : Opinion) → option_map tell (lower score_in found o) ≡ step o (option_map tell found)) (test : Opinion → Bool) where
  told_more : (os : List Opinion) (o : Opinion) (b : Bool) → test o ≡ b → option_map tell (lowest score_in (filter test (os ++ o ∷ []))) ≡ (if b then step o (option_map tell (lowest score_in (filter test os))) else option_map tell (lowest score_in (filter test os)))
  told_more os o b is =
      ap (λ (xs : List Opinion). option_map tell (lowest score_in xs)) (filter-append test os (o ∷ []))
      ∙ ap (λ (c : Bool). option_map tell (lowest score_in (filter test os ++ (if c then o ∷ [] else [])))) is
      ∙ by b
    where
      by : (c : Bool) → option_map tell (lowest score_in (filter test os ++ (if c then o ∷ [] else []))) ≡ (if c then step o (option_map tell (lowest score_in (filter test os))) else option_map tell (lowest score_in (filter test os)))
      by true = ap (option_map tell) (sym (lowest_more score_in (filter test os) o)) ∙ tells (lowest score_in (filter test os)) o
      by false = ap (λ (xs : List Opinion). option_map tell (lowest score_in xs)) (append-nil (filter test os))

lowest_told : (found : Option Opinion) (o : Opinion) → option_map lowest_in (lower score_in found o) ≡ lower_opinion o (option_map lowest_in found)
lowest_told None o = refl
lowest_told (Some x) o = by (int_lt o.score x.score)
  where
    by : (b : Bool) → option_map lowest_in (if b then Some o else Some x) ≡ (if b then Some (lowest_in o) else Some (lowest_in x))
    by true = refl
    by false = refl

pub score_told : (found : Option Opinion) (o : Opinion) → option_map score_in (lower score_in found o) ≡ lower_score o.score (option_map score_in found)
score_told None o = refl
score_told (Some x) o = by (int_lt o.score x.score)
  where
    by : (b : Bool) → option_map score_in (if b then Some o else Some x) ≡ (if b then Some o.score else Some x.score)
    by true = refl
    by false = refl

between_more : (p q : PeerNo) (os : List Opinion) (o : Opinion) (b : Bool) → is_between p q o ≡ b → lowest_between (os ++ o ∷ []) p q ≡ (if b then lower_opinion o (lowest_between os p q) else lowest_between os p q)
between_more p q os o b is = told_more lowest_in lower_opinion lowest_told (is_between p q) os o b is

in_round_more : (plan : Plan) (r : ℕ) (os : List Opinion) (o : Opinion) (b : Bool) → is_in plan r o ≡ b → lowest_in_round plan (os ++ o ∷ []) r ≡ (if b then lower_score o.score (lowest_in_round plan os r) else lowest_in_round plan os r)
in_round_more plan r os o b is = told_more score_in (λ x found. lower_score x.score found) score_told (is_in plan r) os o b is

-- ---- by number

module _ (plan : Plan) (os : List Opinion) (o : Opinion) where
  abbrev more : List Opinion
  more = os ++ o ∷ []

  pub rounds_more : lowered_in_round (round_of plan o.at) o.score (round_cells plan os) ≡ round_cells plan more
  rounds_more =
      changed (lower_score o.score) (lowest_in_round plan os) (lowest_in_round plan more) (round_of plan o.at) (λ r is. in_round_more plan r os o true is) (λ r is. in_round_more plan r os o false is) (plan.rounds + 1)

  -- the row of who gives the opinion
  pub row_more : (p : PeerNo) (old new : BTreeMap PeerNo Lowest) → same_peer o.by p ≡ true
      → ((q : PeerNo) → lowest_of new q ≡ (if same_peer o.of q then lower_opinion o (lowest_of old q) else lowest_of old q))
      → ShowsRow os p old → ShowsRow more p new
  row_more p old new by lowered was = λ q.
      lowered q
      ∙ ap (λ (found : Option Lowest). if same_peer o.of q then lower_opinion o found else found) (was q)
      ∙ sym (between_more p q os o (same_peer o.of q) (ap (λ (b : Bool). b && same_peer o.of q) by))

  -- that of another peer
  pub row_stays : (p : PeerNo) (row : BTreeMap PeerNo Lowest) → same_peer o.by p ≡ false → ShowsRow os p row → ShowsRow more p row
  row_stays p row by was = λ q. was q ∙ sym (between_more p q os o false (ap (λ (b : Bool). b && same_peer o.of q) by))

  -- ---- groups

  pub about_more : (group : Chosen) (b : Bool) → is_about group o ≡ b → filter (is_about group) more ≡ (if b then filter (is_about group) os ++ o ∷ [] else filter (is_about group) os)
  about_more group b is =
      filter-append (is_about group) os (o ∷ [])
      ∙ ap (λ (c : Bool). filter (is_about group) os ++ (if c then o ∷ [] else [])) is
      ∙ by b
    where
      by : (c : Bool) → filter (is_about group) os ++ (if c then o ∷ [] else []) ≡ (if c then filter (is_about group) os ++ o ∷ [] else filter (is_about group) os)
      by true = refl
      by false = append-nil (filter (is_about group) os)
