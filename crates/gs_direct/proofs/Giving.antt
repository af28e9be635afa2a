-- What one peer hands over to another in a round.
use Rattle.std.proofs.Common.{◌≡◌, Bool, false, if◌then◌else◌, List, [], ◌∷◌, ◌++◌, map, inl, inr, refl, sym, ap, ap₂, subst, subst₂, ◌∙◌, append-nil, eq-eqb}
use Rattle.std.specs.List.{AllByRecursion, AllZip}
use Rattle.gs_base.specs.declared.names.PeerNo.{PeerNo}
use Rattle.gs_base.specs.Names.{same_peer}
use Rattle.gs_rules.proofs.Handled.{StandsOnce}
use Rattle.gs_direct.specs.declared.letter.Letter.{Letter}
use Rattle.gs_direct.specs.declared.outlet.Outlet.{Outlet}
use Rattle.gs_direct.specs.Outlets.{given, letters_of}

abbrev pub tos : List Outlet → List PeerNo
tos outlets = map (λ (o : Outlet). o.to) outlets

abbrev given_if : Bool → PeerNo → Outlet → List Letter
given_if mine from o = if mine then letters_of from o else []

-- nothing goes to whoever has no outlet
pub given_none : (from p : PeerNo) (outlets : List Outlet) → AllByRecursion (λ q. same_peer q p ≡ false) (tos outlets) → given from outlets p ≡ []
given_none from p [] apart = refl
given_none from p (o ∷ outlets) apart = ap₂ (λ (b : Bool) (ls : List Letter). given_if b from o ++ ls) apart.0 (given_none from p outlets apart.1)

-- what holds of the letters of each outlet holds of what goes to its neighbour
pub given_once : (P : PeerNo → List Letter → Type 0) (from p : PeerNo) (outlets : List Outlet) → StandsOnce p (tos outlets) → AllByRecursion (λ (o : Outlet). P o.to (letters_of from o)) outlets → P p (given from outlets p)
given_once P from p [] once each = absurd once
given_once P from p (o ∷ outlets) (inl (same, apart)) each =
    let mine : given from (o ∷ outlets) p ≡ letters_of from o =
    ap₂ (λ (b : Bool) (ls : List Letter). given_if b from o ++ ls) (ap (λ (q : PeerNo). same_peer o.to q) (sym same) ∙ eq-eqb o.to.0 o.to.0 refl) (given_none from p outlets apart) ∙ append-nil (letters_of from o) in
    subst₂ (λ (q : PeerNo) (ls : List Letter). P q ls) same (sym mine) each.0
given_once P from p (o ∷ outlets) (inr (other, once)) each =
    subst (P p) (sym (ap (λ (b : Bool). given_if b from o ++ given from outlets p) other)) (given_once P from p outlets once each.1)

-- ---- outlets side by side

pub tos_zip : (R : Outlet → Outlet → Type 0) → ((o o' : Outlet) → R o o' → o'.to ≡ o.to) → (xs ys : List Outlet) → AllZip R xs ys → tos ys ≡ tos xs
tos_zip R same [] [] h = refl
tos_zip R same (x ∷ xs) (y ∷ ys) h = ap₂ (λ (q : PeerNo) (qs : List PeerNo). q ∷ qs) (same x y h.0) (tos_zip R same xs ys h.1)
tos_zip R same [] (y ∷ ys) h = absurd h
tos_zip R same (x ∷ xs) [] h = absurd h

-- what follows for each of the last of three lists
pub each_third : (P Q : Outlet → Type 0) (R S : Outlet → Outlet → Type 0) → ((x y z : Outlet) → P x → R x y → S y z → Q z) → (xs ys zs : List Outlet) → AllByRecursion P xs → AllZip R xs ys → AllZip S ys zs → AllByRecursion Q zs
each_third P Q R S so [] [] [] p r s = tt
each_third P Q R S so (x ∷ xs) (y ∷ ys) (z ∷ zs) p r s = (so x y z p.0 r.0 s.0, each_third P Q R S so xs ys zs p.1 r.1 s.1)
each_third P Q R S so [] [] (z ∷ zs) p r s = absurd s
each_third P Q R S so [] (y ∷ ys) zs p r s = absurd r
each_third P Q R S so (x ∷ xs) [] zs p r s = absurd r
each_third P Q R S so (x ∷ xs) (y ∷ ys) [] p r s = absurd s

-- and for each of the second
pub each_second : (P Q : Outlet → Type 0) (R S : Outlet → Outlet → Type 0) → ((x y z : Outlet) → P x → R x y → S y z → Q y) → (xs ys zs : List Outlet) → AllByRecursion P xs → AllZip R xs ys → AllZip S ys zs → AllByRecursion Q ys
each_second P Q R S so [] [] [] p r s = tt
each_second P Q R S so (x ∷ xs) (y ∷ ys) (z ∷ zs) p r s = (so x y z p.0 r.0 s.0, each_second P Q R S so xs ys zs p.1 r.1 s.1)
each_second P Q R S so [] [] (z ∷ zs) p r s = absurd s
each_second P Q R S so [] (y ∷ ys) zs p r s = absurd r
each_second P Q R S so (x ∷ xs) [] zs p r s = absurd r
each_second P Q R S so (x ∷ xs) (y ∷ ys) [] p r s = absurd s
