-- Lemmas on lists.
use Rattle.std.proofs.Common.{◌≡◌, Bool, List, [], ◌∷◌, length, map, Vec, Global, refl, sym, ap, ◌∙◌, arith}
use Rattle.std.specs.List.{list_any}
use Rattle.toml.specs.Data.{Data, array}
use Rattle.toml.specs.declared.value.Value.{Value, Value-F, fold-roll-Value}
use Rattle.toml.specs.declared.value.Value.TheVariants.{Array, rolls-Array}
use Rattle.toml.specs.View.{view, view_step, items_view}
use Rattle.gs_scenario.specs.Refusal.{item_count}

-- a test of what a function makes of each element
pub list_any_map : {X Y : Type 0} (p : Y → Bool) (f : X → Y) (xs : List X) → list_any p (map f xs) ≡ list_any (λ x. p (f x)) xs
list_any_map p f [] = refl
list_any_map p f (x ∷ xs) = rw (list_any_map p f xs)

-- how many items a list of values is seen as
pub item_count_view : (values : List Value) → item_count (items_view values) ≡ length values
item_count_view [] = refl
item_count_view (value ∷ values) = omega (arith, item_count_view values)

-- what a list of values is seen as
pub view_of_list : (list : Vec Value Global) → view (Array list) ≡ array (items_view list.items)
view_of_list list = ap view (sym (rolls-Array list)) ∙ fold-roll-Value Data view_step (Value-F.Array list)
