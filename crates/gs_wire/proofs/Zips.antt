-- Two lists, place by place, and repeated fields.
use Rattle.std.proofs.Common.{◌≡◌, ℕ, List, [], ◌∷◌, ◌++◌, Some, None, refl, ap, ◌∙◌, append-nil}
use Rattle.std.specs.List.{AllZip, cons_option}
use Rattle.std.proofs.lemmas.List.Elements.{filter_map-append}
use Rattle.gs_wire.specs.Records.{Record, len_in, len_values}
use Rattle.gs_wire.proofs.FieldValues.{len_values-push}

-- ---- two lists, place by place

pub AllZip-push : {A B : Type 0} (R : A → B → Type 0) (xs : List A) (ys : List B) (x : A) (y : B) → AllZip R xs ys → R x y → AllZip R (xs ++ x ∷ []) (ys ++ y ∷ [])
AllZip-push R [] [] x y h r = (r, tt)
AllZip-push R [] (z ∷ ys) x y h r = absurd h
AllZip-push R (w ∷ xs) [] x y h r = absurd h
AllZip-push R (w ∷ xs) (z ∷ ys) x y h r = (h.0, AllZip-push R xs ys x y h.1 r)

pub AllZip-append : {A B : Type 0} (R : A → B → Type 0) (xs : List A) (ys : List B) (zs : List A) (ws : List B) → AllZip R xs ys → AllZip R zs ws → AllZip R (xs ++ zs) (ys ++ ws)
AllZip-append R [] [] zs ws h k = k
AllZip-append R [] (y ∷ ys) zs ws h k = absurd h
AllZip-append R (x ∷ xs) [] zs ws h k = absurd h
AllZip-append R (x ∷ xs) (y ∷ ys) zs ws h k = (h.0, AllZip-append R xs ys zs ws h.1 k)

-- what stands in the middle has a partner
AllZip-middle : {A B : Type 0} (R : A → B → Type 0) (xs : List A) (x : A) (more : List A) (ys : List B) → AllZip R (xs ++ x ∷ more) ys → (y : B) × R x y
AllZip-middle R [] x more [] h = absurd h
AllZip-middle R [] x more (y ∷ ys) h = (y, h.0)
AllZip-middle R (w ∷ xs) x more [] h = absurd h
AllZip-middle R (w ∷ xs) x more (y ∷ ys) h = AllZip-middle R xs x more ys h.1

-- where each item has at most one partner, the partners are one list
pub AllZip-same : {A B : Type 0} (R : A → B → Type 0) → ((x : A) (y z : B) → R x y → R x z → y ≡ z) → (xs : List A) (ys zs : List B) → AllZip R xs ys → AllZip R xs zs → ys ≡ zs
AllZip-same R one [] [] [] h k = refl
AllZip-same R one [] [] (z ∷ zs) h k = absurd k
AllZip-same R one [] (y ∷ ys) zs h k = absurd h
AllZip-same R one (x ∷ xs) [] zs h k = absurd h
AllZip-same R one (x ∷ xs) (y ∷ ys) [] h k = absurd k
AllZip-same R one (x ∷ xs) (y ∷ ys) (z ∷ zs) h k = let e = one x y z h.0 k.0 in let es = AllZip-same R one xs ys zs h.1 k.1 in cc (e, es)

-- ---- a repeated field

-- one more part, where the record holds one
pub part_pushed : {V : Type 0} (R : List ℕ → V → Type 0) (wanted : ℕ) (rs : List Record) (r : Record) (vs : List V) (bytes : List ℕ) (v : V) → len_in wanted r.field r.value ≡ Some bytes → AllZip R (len_values wanted rs) vs → R bytes v → AllZip R (len_values wanted (rs ++ r ∷ [])) (vs ++ v ∷ [])
part_pushed R wanted rs r vs bytes v e h p =
    let is : len_values wanted (rs ++ r ∷ []) ≡ len_values wanted rs ++ bytes ∷ [] = len_values-push wanted rs r ∙ ap (λ o. len_values wanted rs ++ cons_option o []) e in
    rw is (AllZip-push R (len_values wanted rs) vs bytes v h p)

-- none, where it doesn't
pub part_skipped : {V : Type 0} (R : List ℕ → V → Type 0) (wanted : ℕ) (rs : List Record) (r : Record) (vs : List V) → len_in wanted r.field r.value ≡ None → AllZip R (len_values wanted rs) vs → AllZip R (len_values wanted (rs ++ r ∷ [])) vs
part_skipped R wanted rs r vs e h =
    let is : len_values wanted (rs ++ r ∷ []) ≡ len_values wanted rs = len_values-push wanted rs r ∙ ap (λ o. len_values wanted rs ++ cons_option o []) e ∙ append-nil (len_values wanted rs) in
    rw is h

-- the values round one
pub len_values-middle : (wanted : ℕ) (before after : List Record) (bytes : List ℕ) (r : Record) → len_in wanted r.field r.value ≡ Some bytes → len_values wanted (before ++ r ∷ after) ≡ len_values wanted before ++ bytes ∷ len_values wanted after
len_values-middle wanted before after bytes r e = filter_map-append (λ r. len_in wanted r.field r.value) before (r ∷ after) ∙ ap (λ o. len_values wanted before ++ cons_option o (len_values wanted after)) e

-- a record that spells no part spoils all
pub part_spoiled : {V : Type 0} (R : List ℕ → V → Type 0) (wanted : ℕ) (before after : List Record) (r : Record) (vs : List V) (bytes : List ℕ) → len_in wanted r.field r.value ≡ Some bytes → ((v : V) → ¬ R bytes v) → ¬ AllZip R (len_values wanted (before ++ r ∷ after)) vs
part_spoiled R wanted before after r vs bytes e none h =
    let is = len_values-middle wanted before after bytes r e in
    let found = AllZip-middle R (len_values wanted before) bytes (len_values wanted after) vs (rw is at h) in
    none found.0 found.1

-- what stands in the middle, with its partner
pub AllZip-split : {A B : Type 0} (R : A → B → Type 0) (xs : List A) (x : A) (more : List A) (ys : List B) → AllZip R (xs ++ x ∷ more) ys → (front : List B) × (y : B) × (back : List B) × (ys ≡ front ++ y ∷ back) × R x y
AllZip-split R [] x more [] h = absurd h
AllZip-split R [] x more (y ∷ ys) h = ([], y, ys, refl, h.0)
AllZip-split R (w ∷ xs) x more [] h = absurd h
AllZip-split {A} {B} R (w ∷ xs) x more (y ∷ ys) h =
    let s = AllZip-split R xs x more ys h.1 in
    (y ∷ s.0, s.1, s.2, ap (λ (t : List B). y ∷ t) s.3, s.4)
