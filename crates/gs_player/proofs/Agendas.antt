-- Lines under their rounds.
use Rattle.std.proofs.Common.{◌≡◌, ◌++◌, ◌∙◌, ℕ, Bool, true, false, cond, nat_eq, List, [], ◌∷◌, Option, Some, None, refl, sym, ap, append-nil}
use Rattle.std.proofs.lemmas.Bool.{eqb-true}
use Rattle.std.specs.Map.{lookup}
use Rattle.std.specs.declared.vec.Vec.{Vec}
use Rattle.std.specs.declared.alloc.Global.{Global}
use Rattle.indexmap.specs.IndexMap.{IndexMap}
use Rattle.gs_plan.specs.declared.plan.Line.{Line}
use Rattle.gs_rules.specs.Rounds.{is_at}
use Rattle.gs_player.specs.Agendas.{lines_at}

abbrev Lines : Type 0
Lines = Vec (ℕ × Line) Global

items_in : Option Lines → List (ℕ × Line)
items_in None = []
items_in (Some lines) = lines.items

-- the first line of a round
pub first_line : {S : Type 0} (old new : IndexMap ℕ Lines S) (x : ℕ × Line) (lines : Lines) (r : ℕ)
    → None ≡ lookup (nat_eq x.1.at) old.entries
    → lookup (nat_eq r) new.entries ≡ cond (nat_eq x.1.at r) (Some lines) (lookup (nat_eq r) old.entries)
    → lines.items ≡ x ∷ []
    → lines_at new r ≡ lines_at old r ++ cond (is_at r x) (x ∷ []) []
unfolding items_in
first_line old new x lines r none updates one = ap items_in updates ∙ by (nat_eq x.1.at r) refl
  where
    by : (same : Bool) → nat_eq x.1.at r ≡ same → items_in (cond same (Some lines) (lookup (nat_eq r) old.entries)) ≡ items_in (lookup (nat_eq r) old.entries) ++ cond same (x ∷ []) []
    by true is = one ∙ ap (λ (was : List (ℕ × Line)). was ++ x ∷ []) (ap items_in (none ∙ ap (λ (n : ℕ). lookup (nat_eq n) old.entries) (eqb-true x.1.at r is)))
    by false is = sym (append-nil (items_in (lookup (nat_eq r) old.entries)))
