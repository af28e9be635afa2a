-- Rows of pairs after one opinion more.
use Rattle.std.proofs.Common.{◌≡◌, ℕ, Bool, true, false, cond, if◌then◌else◌, nat_eq, List, [], ◌∷◌, ◌++◌, Option, None, Some, get_or, length, ◌<◌, refl, sym, ap, ap₂, ◌∙◌, arith}
use Rattle.std.specs.Prelude.{slice_set}
use Rattle.std.specs.BTreeMap.{BTreeMap}
use Rattle.std.specs.Ordering.{is_eq}
use Rattle.std.proofs.lemmas.Bool.Decides.{nat_tests}
use Rattle.std.proofs.lemmas.Option.{slice_get_read}
use Rattle.gs_base.specs.declared.names.PeerNo.{PeerNo}
use Rattle.gs_base.specs.Names.{same_peer}
use Rattle.gs_plan.specs.declared.plan.Plan.{Plan}
use Rattle.gs_seats.specs.Rounds.{peer_no}
use Rattle.gs_opinions.specs.declared.opinion.Lowest.{Lowest}
use Rattle.gs_opinions.specs.declared.opinion.Opinion.{Opinion}
use Rattle.gs_opinions.specs.Noting.{ShowsPairs, ShowsRow, lower_opinion, lowest_of, peer_order}
use Rattle.gs_opinions.specs.Runs.{lowest_in}
use Rattle.gs_opinions.proofs.Ascending.{Row, look, same_order}
use Rattle.gs_opinions.proofs.OneMore.{row_more, row_stays}
use Rattle.gs_opinions.proofs.Zipped.{found_at, kept_all, none_at, put_at}

one_peer : (p q : PeerNo) → same_peer p q ≡ true → p ≡ q
one_peer p q same = let is : p.0 ≡ q.0 = grind (arith, nat_tests) in λ i. record { 0 = is i }

-- the first opinion of a peer
pub first_of : (old new : Row) (o : Opinion) (x : Lowest) (q : PeerNo)
    → look o.of old ≡ None
    → x ≡ lowest_in o
    → look q new ≡ cond (is_eq (peer_order o.of q)) (Some x) (look q old)
    → look q new ≡ (if same_peer o.of q then lower_opinion o (look q old) else look q old)
first_of old new o x q none is updates =
    updates
    ∙ ap₂ (λ (b : Bool) (y : Lowest). cond b (Some y) (look q old)) (same_order o.of q) is
    ∙ by (same_peer o.of q) refl
  where
    by : (b : Bool) → same_peer o.of q ≡ b → cond b (Some (lowest_in o)) (look q old) ≡ (if b then lower_opinion o (look q old) else look q old)
    by true one = ap (λ (found : Option Lowest). lower_opinion o found) (sym none ∙ ap (λ (r : PeerNo). look r old) (one_peer o.of q one))
    by false one = refl

module _ (plan : Plan) (os : List Opinion) (o : Opinion) (rows : List (BTreeMap PeerNo Lowest)) (k : ℕ) (is : k ≡ o.by.0) where
  other_peer : (m : ℕ) (row : BTreeMap PeerNo Lowest) → nat_eq k m ≡ false → ShowsRow os (peer_no m) row → ShowsRow (os ++ o ∷ []) (peer_no m) row
  other_peer m row differs h = row_stays plan os o (peer_no m) row (ap (λ (n : ℕ). nat_eq n m) (sym is) ∙ differs) h

  pub lowered_at : (row new : BTreeMap PeerNo Lowest) → k < length rows → row ≡ get_or rows k row
      → ((q : PeerNo) → lowest_of new q ≡ (if same_peer o.of q then lower_opinion o (lowest_of row q) else lowest_of row q))
      → ShowsPairs plan rows os → ShowsPairs plan (slice_set rows k new) (os ++ o ∷ [])
  lowered_at row new low is_it lowered was =
      let found = found_at (ShowsRow os) (length plan.peers) k rows was row (slice_get_read rows (length rows) k row refl low is_it) in
      put_at (ShowsRow os) (ShowsRow (os ++ o ∷ [])) k other_peer (length plan.peers) rows was new
      (row_more plan os o (peer_no k) row new by lowered found.1)
    where
      by : same_peer o.by (peer_no k) ≡ true
      by = grind (arith, nat_tests)

  pub lowered_none : (k < length rows → false ≡ true) → ShowsPairs plan rows os → ShowsPairs plan rows (os ++ o ∷ [])
  lowered_none out was =
      kept_all (ShowsRow os) (ShowsRow (os ++ o ∷ [])) k other_peer 0 (length plan.peers) (none_at (ShowsRow os) (length plan.peers) k rows was out) rows was
