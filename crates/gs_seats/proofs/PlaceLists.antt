-- Lists among lists: one is replaced, one more stands after them.
use Rattle.std.proofs.Common.{◌≡◌, ◌≢◌, ℕ, zero, suc, ◌<◌, List, [], ◌∷◌, ◌++◌, length, set, get_or, refl, sym, ap, ◌∙◌, arith, Vec}
use Rattle.std.specs.declared.alloc.Global.{Global}
use Rattle.gs_seats.specs.ListsByPeer.{list_at}

set_here : {A : Type 0} (lists : List (Vec A Global)) (n : ℕ) (v : Vec A Global) → n < length lists → list_at (set lists n v) n ≡ v.items
set_here [] n v within = absurd (omega arith)
set_here (x ∷ lists) zero v within = refl
set_here (x ∷ lists) (suc n) v within = set_here lists n v (omega arith)

set_there : {A : Type 0} (lists : List (Vec A Global)) (n : ℕ) (v : Vec A Global) (m : ℕ) → m ≢ n → list_at (set lists n v) m ≡ list_at lists m
set_there [] n v m apart = refl
set_there (x ∷ lists) zero v zero apart = absurd (apart refl)
set_there (x ∷ lists) zero v (suc m) apart = refl
set_there (x ∷ lists) (suc n) v zero apart = refl
set_there (x ∷ lists) (suc n) v (suc m) apart = set_there lists n v m (λ e. apart (ap suc e))

read_here : {A : Type 0} (lists : List (Vec A Global)) (n : ℕ) (d : Vec A Global) → n < length lists → list_at lists n ≡ (get_or lists n d).items
read_here [] n d within = absurd (omega arith)
read_here (x ∷ lists) zero d within = refl
read_here (x ∷ lists) (suc n) d within = read_here lists n d (omega arith)

-- the list at a place, by the index that the code has there
module _ {A : Type 0} (lists : List (Vec A Global)) (n index : ℕ) (same : index ≡ n) where
  pub list_at-set : (v : Vec A Global) → n < length lists → list_at (set lists index v) n ≡ v.items
  list_at-set v within = ap (λ i. list_at (set lists i v) n) same ∙ set_here lists n v within

  pub list_at-other : (v : Vec A Global) (m : ℕ) → m ≢ n → list_at (set lists index v) m ≡ list_at lists m
  list_at-other v m apart = ap (λ i. list_at (set lists i v) m) same ∙ set_there lists n v m apart

  pub list_at-get : (d v : Vec A Global) → v ≡ get_or lists index d → n < length lists → list_at lists n ≡ v.items
  list_at-get d v is within = read_here lists n d within ∙ ap (λ i. (get_or lists i d).items) (sym same) ∙ ap (λ w. w.items) (sym is)

-- an empty list more
pub still_empty : {A : Type 0} (lists : List (Vec A Global)) (v : Vec A Global) → ((n : ℕ) → list_at lists n ≡ []) → v.items ≡ [] → (n : ℕ) → list_at (lists ++ v ∷ []) n ≡ []
still_empty [] v all is zero = is
still_empty [] v all is (suc n) = refl
still_empty (x ∷ lists) v all is zero = all 0
still_empty (x ∷ lists) v all is (suc n) = still_empty lists v (λ m. all (suc m)) is n

-- ---- what a pop that found nothing says

pub nil_by_length : {A : Type 0} (l : List A) → length l ≡ 0 → l ≡ []
nil_by_length [] e = refl
nil_by_length (x ∷ l) e = absurd (omega (arith, e))
