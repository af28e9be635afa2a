-- Faults that are passed on.
use Rattle.std.proofs.Common.{◌≡◌, Result, Err, ap}

-- a fault is one, whatever else might have been answered
pub same_fault : {S T F : Type 0} (x y : F) (r : Result S F) → r ≡ Err x → r ≡ Err y → ◌≡◌ {A = Result T F} (Err x) (Err y)
same_fault x y r p q = let e : x ≡ y = cc in ap (λ f. Err f) e
