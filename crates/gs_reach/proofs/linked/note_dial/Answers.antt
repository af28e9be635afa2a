use Rattle.std.proofs.Common.{◌≡◌, ◌∙◌, ◌&&◌, ◌||◌, Bool, true, false, not, refl, ap, ap₂}
use Rattle.gs_reach.proofs.linked.note_dial.Goals as goal

twice : (k : Bool) → k ≡ not (not k)
twice true = refl
twice false = refl

grouped : (a b c : Bool) → ((a || b) || c) ≡ (a || (b || c))
grouped true b c = refl
grouped false b c = refl

-- each end of a dial is linked as long as it keeps the other
joined : (new mid old f t k1 k2 l1 l2 : Bool) → new ≡ (mid || (t && k2)) → mid ≡ (old || (f && k1)) → not k1 ≡ l1 → not k2 ≡ l2
    → new ≡ (old || ((f && not l1) || (t && not l2)))
joined new mid old f t k1 k2 l1 l2 second first one other =
    second ∙ ap (λ (m : Bool). m || (t && k2)) first ∙ grouped old (f && k1) (t && k2)
    ∙ ap₂ (λ (x y : Bool). old || ((f && x) || (t && y))) (twice k1 ∙ ap not one) (twice k2 ∙ ap not other)

pub returns : goal.returns
returns c = λ q at.
    joined _ _ _ _ _ _ _ _ _ (c.in_ok-link-2.ensures q at.0) (c.in_ok-link.ensures q at.0) (c.kept.ensures at) (c.kept-2.ensures at)
