-- Options with different names may change places.
use Rattle.std.proofs.Common.{◌≡◌, ◌++◌, ◌∷◌, [], ◌∙◌, ℕ, Bool, true, false, if◌then◌else◌, List, Option, refl, sym, ap, true≢false}
use Rattle.std.specs.Prelude.{◌||◌}
use Rattle.std.specs.Cmp.Lexicographic.{nat_list_eq_equiv}
use Rattle.gs_program.specs.Options.{Given, has_option, same, value_of}
use Rattle.gs_program.specs.Orders.{OrderIsFree}

or_swapped : (a b c : Bool) → (a || (b || c)) ≡ (b || (a || c))
or_swapped true true c = refl
or_swapped true false c = refl
or_swapped false true c = refl
or_swapped false false c = refl

has_swapped : (before after : List Given) (x y : Given) (name : List ℕ)
    → has_option (before ++ x ∷ y ∷ after) name ≡ has_option (before ++ y ∷ x ∷ after) name
has_swapped [] after x y name = or_swapped (same x.name name) (same y.name name) (has_option after name)
has_swapped (g ∷ before) after x y name = ap (λ (b : Bool). same g.name name || b) (has_swapped before after x y name)

chosen : {A : Type 0} (a b : Bool) (x y z : A) → (a ≡ true → b ≡ true → x ≡ y)
    → (if a then x else if b then y else z) ≡ (if b then y else if a then x else z)
chosen true true x y z both = both refl refl
chosen true false x y z both = refl
chosen false true x y z both = refl
chosen false false x y z both = refl

value_swapped : (before after : List Given) (x y : Given) (name : List ℕ) → same x.name y.name ≡ false
    → value_of (before ++ x ∷ y ∷ after) name ≡ value_of (before ++ y ∷ x ∷ after) name
value_swapped [] after x y name differ =
    chosen (same x.name name) (same y.name name) x.value y.value (value_of after name)
    (λ is is'. absurd (true≢false (sym (sym differ ∙ nat_list_eq_equiv.congr x.name name y.name is ∙ nat_list_eq_equiv.symm name y.name ∙ is'))))
value_swapped (g ∷ before) after x y name differ =
    ap (λ (v : Option (List ℕ)). if same g.name name then g.value else v) (value_swapped before after x y name differ)

pub order_is_free : OrderIsFree
order_is_free before after x y name differ = (has_swapped before after x y name, value_swapped before after x y name differ)
