-- What two neighbours have exchanged, whichever of them dialled.
use Rattle.std.proofs.Common.{◌≡◌, inl, inr, true, ◌&&◌, List, [], ◌∷◌, sym, subst₂, true≢false}
use Rattle.std.specs.List.{AllByRecursion}
use Rattle.gs_base.specs.declared.names.PeerNo.{PeerNo}
use Rattle.gs_base.specs.Names.{same_peer}
use Rattle.gs_plan.specs.declared.plan.Dial.{Dial}
use Rattle.gs_plan.specs.Plans.{are_joined, joins}
use Rattle.gs_seats.proofs.Truths.{both_of, is_same, one_of}
use Rattle.gs_net.specs.Given.{Given, Exchanged, Reaches}

by_dial : (givens : List Given) (p q : PeerNo) (dial : Dial) → joins p q dial ≡ true → Exchanged givens dial → Reaches givens q p
by_dial givens p q dial joined h = elim (one_of (same_peer dial.from p && same_peer dial.to q) (same_peer dial.from q && same_peer dial.to p) joined) [
  | inl it ↦
      let ends = both_of (same_peer dial.from p) (same_peer dial.to q) it in
      subst₂ (λ (from to : PeerNo). Reaches givens from to) (is_same dial.to q ends.1) (is_same dial.from p ends.0) h.1
  | inr it ↦
      let ends = both_of (same_peer dial.from q) (same_peer dial.to p) it in
      subst₂ (λ (from to : PeerNo). Reaches givens from to) (is_same dial.from q ends.0) (is_same dial.to p ends.1) h.0
]

-- what the one's end accepted for the other is what that one's end took
pub joined_reach : (givens : List Given) (p q : PeerNo) (dials : List Dial) → are_joined dials p q ≡ true → AllByRecursion (Exchanged givens) dials → Reaches givens q p
joined_reach givens p q [] joined h = absurd (true≢false (sym joined))
joined_reach givens p q (dial ∷ dials) joined h = elim (one_of (joins p q dial) (are_joined dials p q) joined) [
  | inl it ↦ by_dial givens p q dial it h.0
  | inr later ↦ joined_reach givens p q dials later h.1
]
