-- The nearest of the known keys, one after the other.
use Rattle.std.proofs.Common.{◌≡◌, ◌<◌, ◌≤◌, ◌-◌, ◌^◌, ◌∙◌, ◌++◌, ◌∷◌, [], ℕ, Bool, true, false, true≢false, List, Option, Some, None, refl, sym, ap, subst, arith, append_assoc}
use Rattle.std.specs.Prelude.{◌/◌, length, max}
use Rattle.std.specs.List.{All}
use Rattle.std.proofs.lemmas.Bool.Decides.{nat_tests}
use Rattle.std.proofs.lemmas.List.Elements.{All-append, All-cons, All-nil, All-push, All-weaker}
use Rattle.gs_check.specs.Near.{IsNearestSoFar, edits, is_near}

not_near : (b : Bool) → (b ≡ true → ⊥) → b ≡ false
not_near true never = absurd (never refl)
not_near false never = refl

-- no more edits lead to a near key than a third of the bytes of the longer one
pub near_edits : (key name : List ℕ) → is_near key name ≡ true → edits key name ≤ max (length key) (length name) / 3
near_edits key name near = grind (arith, nat_tests, near)

module _ (key : List ℕ) where
  -- fewer edits lead to the name than to each near one of some
  abbrev BeforeAll : List ℕ → List ℕ → Type 0
  BeforeAll name other = is_near key other ≡ true → edits key name < edits key other

  abbrev NotAfter : List ℕ → List ℕ → Type 0
  NotAfter name other = is_near key other ≡ true → edits key name ≤ edits key other

  pub nearer : (seen : List (List ℕ)) (best : Option (List ℕ)) (fewest : ℕ) (name : List ℕ) → IsNearestSoFar key seen best fewest → edits key name < fewest → is_near key name ≡ true
      → IsNearestSoFar key (seen ++ name ∷ []) (Some name) (edits key name)
  nearer seen None fewest name (none, most) less near = (
    record {
      before = seen;
      after = [];
      stands = refl;
      near = near;
      first = All-weaker (λ other. is_near key other ≡ false) (BeforeAll name) (λ other far is. absurd (true≢false (sym is ∙ far))) seen none;
      fewest = All-nil (NotAfter name);
    },
    refl,
  )
  nearer seen (Some best) fewest name (is, same) less near =
      let closer : edits key name < edits key best = subst (λ n. edits key name < n) same less in
      let before = All-weaker (BeforeAll best) (BeforeAll name) (λ other further is_near. omega (arith, closer, further is_near)) is.before is.first in
      let after = All-weaker (NotAfter best) (BeforeAll name) (λ other further is_near. omega (arith, closer, further is_near)) is.after is.fewest in (
        record {
          before = seen;
          after = [];
          stands = refl;
          near = near;
          first = subst (All (BeforeAll name)) (sym is.stands) (All-append (BeforeAll name) is.before (best ∷ is.after) before (All-cons (BeforeAll name) best is.after (λ is_near. closer) after));
          fewest = All-nil (NotAfter name);
        },
        refl,
      )

  pub no_nearer : (seen : List (List ℕ)) (best : Option (List ℕ)) (fewest : ℕ) (name : List ℕ) → IsNearestSoFar key seen best fewest
      → (is_near key name ≡ true → fewest ≤ edits key name) → (is_near key name ≡ true → edits key name < 2 ^ 64 - 1)
      → IsNearestSoFar key (seen ++ name ∷ []) best fewest
  no_nearer seen None fewest name (none, most) further small =
      (All-push (λ other. is_near key other ≡ false) seen name none (not_near (is_near key name) (λ near. omega (arith, most, further near, small near))), most)
  no_nearer seen (Some best) fewest name (is, same) further small = (
    record {
      before = is.before;
      after = is.after ++ name ∷ [];
      stands = ap (λ all. all ++ name ∷ []) is.stands ∙ append_assoc is.before (best ∷ is.after) (name ∷ []);
      near = is.near;
      first = is.first;
      fewest = All-push (NotAfter best) is.after name is.fewest (λ near. subst (λ n. n ≤ edits key name) same (further near));
    },
    same,
  )
