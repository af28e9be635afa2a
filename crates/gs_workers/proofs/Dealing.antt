-- Dealt lists, one item more and one less, and what becomes of each item.
use Rattle.std.proofs.Common.{◌≡◌, ◌≢◌, ◌<◌, ◌+◌, ℕ, List, [], ◌∷◌, ◌++◌, length, length-append, map, Vec, refl, sym, ap, ◌∙◌, subst, arith}
use Rattle.std.proofs.lemmas.List.{map-append, same_from_push}
use Rattle.std.specs.List.{AllByRecursion, AllZip}
use Rattle.std.specs.declared.alloc.Global.{Global}
use Rattle.gs_workers.specs.Deals.{IsDealt, lists_of}
use Rattle.gs_workers.proofs.Members.{all_push}

push_not_nil : {A : Type 0} (xs : List A) (x : A) → xs ++ x ∷ [] ≢ []
push_not_nil xs x is = let l = ap length is in absurd (omega (arith, l, length-append xs (x ∷ [])))

pub lists_push : {A : Type 0} (groups : List (Vec A Global)) (group : Vec A Global) → lists_of (groups ++ group ∷ []) ≡ lists_of groups ++ group.items ∷ []
lists_push groups group = map-append (λ g. g.items) groups (group ∷ [])

-- how many there are in all groups
abbrev pub total : {Y : Type 0} → List (List Y) → ℕ
total [] = 0
total (group ∷ groups) = length group + total groups

total-push : {Y : Type 0} (groups : List (List Y)) (group : List Y) → total (groups ++ group ∷ []) ≡ total groups + length group
total-push [] group = omega arith
total-push (g ∷ groups) group = let rest = total-push groups group in omega (arith, rest)

pub total_less : {A : Type 0} (group after : Vec A Global) (all rest next : List (Vec A Global)) (top : A) → group.items ≡ after.items ++ top ∷ [] → all ≡ group ∷ rest → next ≡ rest ++ after ∷ [] → total (lists_of next) < total (lists_of all)
total_less group after all rest next top is first behind =
    let l = ap length is in
    let now = ap total (ap lists_of behind ∙ lists_push rest after) ∙ total-push (lists_of rest) after.items in
    let was = ap (λ groups. total (lists_of groups)) first in
    omega (arith, l, length-append after.items (top ∷ []), now, was)

module _ {X Y : Type 0} (R : X → Y → Type 0) where
  -- where the first group has y on top, that was dealt for the first item
  pub takes_one : (xs : List X) (group below : List Y) (y : Y) (groups : List (List Y)) → group ≡ below ++ y ∷ [] → IsDealt R xs (group ∷ groups)
      → (x : X) × (rest : List X) × (xs ≡ x ∷ rest) × R x y × IsDealt R rest (groups ++ below ∷ [])
  takes_one [] group below y groups is dealt = absurd (push_not_nil below y (sym is ∙ dealt.0))
  takes_one (x ∷ xs) group below y groups is dealt =
      let same = same_from_push dealt.0 below dealt.1 y (sym dealt.2 ∙ is) in
      (x, xs, refl, subst (R x) same.1 dealt.3, subst (λ l. IsDealt R xs (groups ++ l ∷ [])) same.0 dealt.4)

  pub none_left : (xs : List X) → IsDealt R xs [] → xs ≡ []
  none_left [] dealt = refl
  none_left (x ∷ xs) dealt = absurd dealt

  -- where nothing on top of the first group can have been dealt for any item, there is none
  pub none_fits : (xs : List X) (group : List Y) (groups : List (List Y)) → ((x : X) (below : List Y) (y : Y) → group ≡ below ++ y ∷ [] → R x y → ⊥) → IsDealt R xs (group ∷ groups) → xs ≡ []
  none_fits [] group groups unfit dealt = refl
  none_fits (x ∷ xs) group groups unfit dealt = absurd (unfit x dealt.0 dealt.1 dealt.2 dealt.3)

all_init : {A : Type 0} (P : A → Type 0) (xs : List A) (x : A) → AllByRecursion P (xs ++ x ∷ []) → AllByRecursion P xs × P x
all_init P [] x all = (tt, all.0)
all_init P (y ∷ xs) x all = let rest = all_init P xs x all.1 in ((all.0, rest.0), rest.1)

-- what holds of each item holds of what was dealt for it
module _ {X Y : Type 0} (R : X → Y → Type 0) (P : X → Type 0) (Q : Y → Type 0) (each : (x : X) (y : Y) → R x y → P x → Q y) where
  all_empty : (groups : List (List Y)) → AllByRecursion (λ group. group ≡ []) groups → AllByRecursion (AllByRecursion Q) groups
  all_empty [] empty = tt
  all_empty (group ∷ groups) empty = (subst (AllByRecursion Q) (sym empty.0) tt, all_empty groups empty.1)

  pub all_dealt : (xs : List X) (groups : List (List Y)) → IsDealt R xs groups → AllByRecursion P xs → AllByRecursion (AllByRecursion Q) groups
  all_dealt [] groups dealt all = all_empty groups dealt
  all_dealt (x ∷ xs) [] dealt all = absurd dealt
  all_dealt (x ∷ xs) (group ∷ groups) dealt all =
      let rest = all_init (AllByRecursion Q) groups dealt.0 (all_dealt xs (groups ++ dealt.0 ∷ []) dealt.4 all.1) in
      (subst (AllByRecursion Q) (sym dealt.2) (all_push Q dealt.0 dealt.1 rest.1 (each x dealt.1 dealt.3 all.0)), rest.0)

module _ {A B : Type 0} (S : A → B → Type 0) where
  pub zip_push : (xs : List A) (ys : List B) (x : A) (y : B) → AllZip S xs ys → S x y → AllZip S (xs ++ x ∷ []) (ys ++ y ∷ [])
  zip_push [] [] x y zip one = (one, tt)
  zip_push [] (z ∷ ys) x y zip one = absurd zip
  zip_push (w ∷ xs) [] x y zip one = absurd zip
  zip_push (w ∷ xs) (z ∷ ys) x y zip one = (zip.0, zip_push xs ys x y zip.1 one)

  zip_init : (xs : List A) (x : A) (ys : List B) → AllZip S (xs ++ x ∷ []) ys → (init : List B) × (y : B) × (ys ≡ init ++ y ∷ []) × AllZip S xs init × S x y
  zip_init [] x [] zip = absurd zip
  zip_init [] x (y ∷ []) zip = ([], y, refl, tt, zip.0)
  zip_init [] x (y ∷ z ∷ ys) zip = absurd zip.1
  zip_init (w ∷ xs) x [] zip = absurd zip
  zip_init (w ∷ xs) x (z ∷ ys) zip =
      let rest = zip_init xs x ys zip.1 in (z ∷ rest.0, rest.1, ap (λ l. z ∷ l) rest.2, (zip.0, rest.3), rest.4)

-- what was dealt, and then became what S says
module _ {X Y Z : Type 0} (R : X → Y → Type 0) (S : Y → Z → Type 0) (T : X → Z → Type 0) (each : (x : X) (y : Y) (z : Z) → R x y → S y z → T x z) where
  empty_through : (groups : List (List Y)) (ends : List (List Z)) → AllByRecursion (λ group. group ≡ []) groups → AllZip (AllZip S) groups ends → AllByRecursion (λ end. end ≡ []) ends
  empty_through [] [] empty zip = tt
  empty_through [] (end ∷ ends) empty zip = absurd zip
  empty_through (group ∷ groups) [] empty zip = absurd zip
  empty_through (group ∷ groups) (end ∷ ends) empty zip = (nothing end (subst (λ l. AllZip S l end) empty.0 zip.0), empty_through groups ends empty.1 zip.1)
    where
      nothing : (end : List Z) → AllZip S [] end → end ≡ []
      nothing [] none = refl
      nothing (z ∷ zs) none = absurd none

  pub dealt_through : (xs : List X) (groups : List (List Y)) (ends : List (List Z)) → IsDealt R xs groups → AllZip (AllZip S) groups ends → IsDealt T xs ends
  dealt_through [] groups ends dealt zip = empty_through groups ends dealt zip
  dealt_through (x ∷ xs) [] ends dealt zip = absurd dealt
  dealt_through (x ∷ xs) (group ∷ groups) [] dealt zip = absurd zip
  dealt_through (x ∷ xs) (group ∷ groups) (end ∷ ends) dealt zip =
      let last = zip_init S dealt.0 dealt.1 end (subst (λ l. AllZip S l end) dealt.2 zip.0) in (
        last.0,
        last.1,
        last.2,
        each x dealt.1 last.1 dealt.3 last.4,
        dealt_through xs (groups ++ dealt.0 ∷ []) (ends ++ last.0 ∷ []) dealt.4 (zip_push (AllZip S) groups ends dealt.0 last.0 zip.1 last.3),
      )

-- one more worker is joined
pub joins_one : {W A B : Type 0} (S : List A → List B → Type 0) (lent : W → List A) (workers : List W) (worker : W) (groups next : List (Vec B Global)) (group : Vec B Global) → next ≡ groups ++ group ∷ []
    → AllZip S (map lent workers) (lists_of groups) → S (lent worker) group.items → AllZip S (map lent (workers ++ worker ∷ [])) (lists_of next)
joins_one S lent workers worker groups next group is zip one =
    subst (λ l. AllZip S (map lent (workers ++ worker ∷ [])) l) (sym (ap lists_of is ∙ lists_push groups group))
    (subst (λ l. AllZip S l (lists_of groups ++ group.items ∷ [])) (sym (map-append lent workers (worker ∷ [])))
    (zip_push S (map lent workers) (lists_of groups) (lent worker) group.items zip one))
