-- What follows from two facts for each element of a list.
use Rattle.std.proofs.Common.{List, [], ◌∷◌}
use Rattle.std.specs.List.{AllByRecursion}

pub each_of_both : {A : Type 0} (P Q R : A → Type 0) → ((x : A) → P x → Q x → R x) → (xs : List A) → AllByRecursion P xs → AllByRecursion Q xs → AllByRecursion R xs
each_of_both P Q R f [] h k = tt
each_of_both P Q R f (x ∷ xs) h k = (f x h.0 k.0, each_of_both P Q R f xs h.1 k.1)
