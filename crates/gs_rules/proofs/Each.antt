-- What holds of each element of a list.
use Rattle.std.proofs.Common.{◌≡◌, Bool, true, false, List, [], ◌∷◌, map, filter, refl}
use Rattle.std.specs.List.{AllByRecursion}

-- what holds of anything holds of each of a list
pub of_each : {X : Type 0} (P : X → Type 0) → ((x : X) → P x) → (xs : List X) → AllByRecursion P xs
of_each P each [] = tt
of_each P each (x ∷ xs) = (each x, of_each P each xs)

-- what follows from what holds of each element holds of each
pub each_weaker : {X : Type 0} (P Q : X → Type 0) → ((x : X) → P x → Q x) → (xs : List X) → AllByRecursion P xs → AllByRecursion Q xs
each_weaker P Q weaker [] all = tt
each_weaker P Q weaker (x ∷ xs) all = (weaker x all.0, each_weaker P Q weaker xs all.1)

-- what holds of what each is mapped to
pub each_mapped : {X Y : Type 0} (P : Y → Type 0) (f : X → Y) (xs : List X) → AllByRecursion (λ x. P (f x)) xs → AllByRecursion P (map f xs)
each_mapped P f [] all = tt
each_mapped P f (x ∷ xs) all = (all.0, each_mapped P f xs all.1)

-- what follows for each that passes a test holds of each that is filtered by it
pub each_passing : {X : Type 0} (P Q : X → Type 0) (test : X → Bool) → ((x : X) → test x ≡ true → P x → Q x) → (xs : List X) → AllByRecursion P xs → AllByRecursion Q (filter test xs)
each_passing P Q test follows [] all = tt
each_passing P Q test follows (x ∷ xs) all = by (test x) refl (each_passing P Q test follows xs all.1)
  where
    by : (passes : Bool) → test x ≡ passes → AllByRecursion Q (filter test xs) → AllByRecursion Q (filter test (x ∷ xs))
    by true is rest = rw is (follows x is all.0, rest)
    by false is rest = rw is rest
