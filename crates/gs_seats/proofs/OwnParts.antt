-- What is found among the parts of a plan that concern one peer is what is found among all.
use Rattle.std.proofs.Common.{◌≡◌, ◌∙◌, Bool, true, false, cond, ◌||◌, ◌&&◌, true≢false, List, [], ◌∷◌, filter, Option, Some, option_map, refl, sym, ap}
use Rattle.std.specs.Prelude.{pos, find, unwrap_or}
use Rattle.std.specs.List.{list_any}
use Rattle.gs_base.specs.Names.{same_peer}
use Rattle.gs_base.specs.declared.names.PeerNo.{PeerNo}
use Rattle.gs_plan.specs.declared.plan.App.{App}
use Rattle.gs_plan.specs.declared.plan.Dial.{Dial}
use Rattle.gs_plan.specs.declared.plan.Plan.{Plan}
use Rattle.gs_plan.specs.Plans.{are_joined, joins}
use Rattle.gs_seats.specs.Own.{is_agreement_of, is_dial_of, is_score_of, neighbour_by}
use Rattle.gs_seats.specs.Rounds.{address_of, is_about, is_agreed, is_dial, neighbour_in, neighbours, numbers}

module _ {A : Type 0} (Q P : A → Bool) (only : (x : A) → P x ≡ true → Q x ≡ true) where
  left_out : (x : A) → Q x ≡ false → P x ≡ false
  left_out x out = by (P x) refl
    where
      by : (p : Bool) → P x ≡ p → p ≡ false
      by true is = absurd (true≢false (sym (only x is) ∙ out))
      by false is = refl

  any_among : (xs : List A) → list_any P (filter Q xs) ≡ list_any P xs
  any_among [] = refl
  any_among (x ∷ xs) = by (Q x) refl (any_among xs)
    where
      by : (q : Bool) → Q x ≡ q → list_any P (filter Q xs) ≡ list_any P xs → list_any P (cond q (x ∷ filter Q xs) (filter Q xs)) ≡ (P x || list_any P xs)
      by true is rest = ap (λ (any : Bool). P x || any) rest
      by false is rest = rest ∙ sym (ap (λ (p : Bool). p || list_any P xs) (left_out x is))

  found_among : (xs : List A) → find P (filter Q xs) ≡ find P xs
  found_among [] = refl
  found_among (x ∷ xs) = by (Q x) refl (found_among xs)
    where
      by : (q : Bool) → Q x ≡ q → find P (filter Q xs) ≡ find P xs → find P (cond q (x ∷ filter Q xs) (filter Q xs)) ≡ cond (P x) (Some x) (find P xs)
      by true is rest = ap (λ (found : Option A). cond (P x) (Some x) found) rest
      by false is rest = rest ∙ sym (ap (λ (p : Bool). cond p (Some x) (find P xs)) (left_out x is))

both_first : (a b : Bool) → (a && b) ≡ true → a ≡ true
both_first true b both = refl
both_first false b both = both

of_either : (a b c d : Bool) → ((a && b) || (c && d)) ≡ true → (a || d) ≡ true
of_either true b c d either = refl
of_either false b true d either = either
of_either false b false d either = absurd (true≢false (sym either))

-- those that p dials, or that dial it
joined_are_own : (p q : PeerNo) (dial : Dial) → joins p q dial ≡ true → is_dial_of p dial ≡ true
joined_are_own p q dial joined = of_either (same_peer dial.from p) (same_peer dial.to q) (same_peer dial.from q) (same_peer dial.to p) joined

dialled_are_own : (p q : PeerNo) (dial : Dial) → is_dial p q dial ≡ true → is_dial_of p dial ≡ true
dialled_are_own p q dial dialled = ap (λ (b : Bool). b || same_peer dial.to p) (both_first (same_peer dial.from p) (same_peer dial.to q) dialled)

pub are_joined_by_own : (dials : List Dial) (p q : PeerNo) → are_joined (filter (is_dial_of p) dials) p q ≡ are_joined dials p q
are_joined_by_own dials p q = any_among (is_dial_of p) (joins p q) (joined_are_own p q) dials

pub neighbours_by_own : (plan : Plan) (p : PeerNo) → filter (are_joined (filter (is_dial_of p) plan.dials) p) (numbers plan) ≡ neighbours plan p
neighbours_by_own plan p = λ i. filter (λ (q : PeerNo). are_joined_by_own plan.dials p q i) (numbers plan)

pub neighbour_by_own : (plan : Plan) (p q : PeerNo)
    → neighbour_by (filter (is_dial_of p) plan.dials) (filter (is_score_of p) plan.apps) (filter (is_agreement_of p) plan.explicit) (address_of plan q) p q ≡ neighbour_in plan p q
neighbour_by_own plan p q = λ i. record {
  peer = q;
  outbound = any_among (is_dial_of p) (is_dial p q) (dialled_are_own p q) plan.dials i;
  address = address_of plan q;
  app = unwrap_or (option_map (λ (app : App). app.value) (found_among (is_score_of p) (is_about p q) (λ app is. both_first (same_peer app.peer p) (same_peer app.about q) is) plan.apps i)) (pos 0);
  explicit = any_among (is_agreement_of p) (is_agreed p q) (λ agreement is. both_first (same_peer agreement.peer p) (same_peer agreement.about q) is) plan.explicit i;
}
