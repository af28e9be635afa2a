-- What is added to a text step by step. A search does not see through a text of many letters before another one, so
-- these put the steps together by hand.
use Rattle.std.proofs.Common.{◌≡◌, ℕ, List, ◌++◌, ap, ◌∙◌, append_assoc}
use Rattle.std.specs.Prelude.{OnOk, Result}
use Rattle.std.proofs.lemmas.Result.{on_ok_weaker}

-- one step after others
pub and_then : {between after : List ℕ} (before so_far more : List ℕ)
    → between ≡ before ++ so_far → after ≡ between ++ more → after ≡ before ++ (so_far ++ more)
and_then before so_far more one next = next ∙ ap (λ (text : List ℕ). text ++ more) one ∙ append_assoc before so_far more

-- the last step after others
pub last : {T E : Type 0} {between : List ℕ} (before after so_far more : List ℕ) (r : Result T E)
    → between ≡ before ++ so_far → OnOk r (after ≡ between ++ more) → OnOk r (after ≡ before ++ (so_far ++ more))
last before after so_far more r one next = on_ok_weaker r (and_then before so_far more one) next
