-- A look at a flag and a setting of it keep the rule.
use Rattle.std.proofs.Common.{◌≡◌, ◌≢◌, ⊎_elim, subst, ℕ, zero, suc, Bool, true, false, not, nat_eq, List, [], ◌∷◌, ◌++◌, replicate, refl, sym, ap, ◌∙◌, append_assoc, append-nil, arith}
use Rattle.std.specs.Prelude.{slice_index, slice_set}
use Rattle.std.proofs.lemmas.Bool.Decides.{eqb_tells}
use Rattle.gs_workers.specs.Flags.{IsFlag}

one_more : (n : ℕ) (b : Bool) → replicate n b ++ b ∷ [] ≡ replicate (suc n) b
one_more zero b = refl
one_more (suc n) b = ap (λ l. b ∷ l) (one_more n b)

-- one who knows that it is set is the last
set_more : (words : List ℕ) (views : List Bool) (after : ℕ) (h : IsFlag words views) → (after ≡ 0 → ⊥) → IsFlag (after ∷ []) (views ++ true ∷ [])
set_more words views after h some = record {
  word = after;
  is_word = refl;
  unset = h.unset;
  set = suc h.set;
  in_order = ap (λ l. l ++ true ∷ []) h.in_order ∙ append_assoc (replicate h.unset false) (replicate h.set true) (true ∷ []) ∙ ap (λ l. replicate h.unset false ++ l) (one_more h.set true);
  none = λ e. absurd (some e);
  zero = λ e. absurd (omega (arith, e));
}

pub raises : (words : List ℕ) (views : List Bool) → IsFlag words views → IsFlag (slice_set words 0 1) (views ++ true ∷ [])
raises words views h = rw h.is_word (set_more words views 1 h (λ e. omega (arith, e)))

-- one who finds it not set is the last of those
unset_more : (words : List ℕ) (views : List Bool) (h : IsFlag words views) → h.word ≡ 0 → IsFlag words (views ++ false ∷ [])
unset_more words views h is =
    let none : h.set ≡ 0 = h.none is in
    record {
      word = h.word;
      is_word = h.is_word;
      unset = suc h.unset;
      set = 0;
      in_order = ap (λ l. l ++ false ∷ []) (h.in_order ∙ ap (λ n. replicate h.unset false ++ replicate n true) none ∙ append-nil (replicate h.unset false)) ∙ one_more h.unset false ∙ sym (append-nil (replicate (suc h.unset) false));
      none = λ e. refl;
      zero = λ e. is;
    }

looked : (words : List ℕ) (views : List Bool) (h : IsFlag words views) (n : ℕ) → n ≡ h.word → IsFlag words (views ++ not (nat_eq n 0) ∷ [])
looked words views h n is = ⊎_elim
    (λ (y : (nat_eq n 0 ≡ true) × (n ≡ 0)). rw y.0 (unset_more words views h (sym is ∙ y.1)))
    (λ (y : (nat_eq n 0 ≡ false) × (n ≢ 0)). rw y.0 (subst (λ (ws : List ℕ). IsFlag ws (views ++ true ∷ [])) (sym h.is_word) (set_more words views h.word h (λ e. y.1 (is ∙ e)))))
    (eqb_tells n 0)

pub looks : (words : List ℕ) (views : List Bool) → IsFlag words views → IsFlag words (views ++ not (nat_eq (slice_index words 0) 0) ∷ [])
looks words views h = looked words views h (slice_index words 0) (ap (λ l. slice_index l 0) h.is_word)
