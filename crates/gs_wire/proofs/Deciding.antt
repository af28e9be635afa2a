-- It is decided what bytes spell: records, and the parts that those say.
use Rattle.std.proofs.Common.{◌⊎◌, ℕ, zero, suc, ◌≤◌, List, [], ◌∷◌, length, refl, sym, subst, append-nil, arith, inl, inr}
use Rattle.std.specs.List.{AllZip}
use Rattle.gs_wire.specs.Records.{Record, SpellRecords}
use Rattle.gs_wire.specs.Reading.{record_at}
use Rattle.gs_wire.specs.Fields.{Spells}
use Rattle.gs_wire.proofs.RecordReading.{record_front, record_shorter}
use Rattle.gs_wire.proofs.RecordLists.{records_after, records_stuck}
use Rattle.gs_wire.proofs.Lengths.{option_cases}

-- some value is R of x, or none is
abbrev pub Decided : {A B : Type 0} → (A → B → Type 0) → A → Type 0
Decided {A} {B} R x = ((y : B) × R x y) ⊎ ((y : B) → ¬ (R x y))

records_upto : (fuel : ℕ) (bytes : List ℕ) → length bytes ≤ fuel → Decided SpellRecords bytes
records_upto fuel [] few = inl ([], refl)
records_upto zero (b ∷ bytes) few = absurd (omega arith)
records_upto (suc fuel) (b ∷ bytes) few = elim (option_cases (record_at (b ∷ bytes))) [
  | inl none ↦ inr (λ rs spelled. records_stuck rs (b ∷ bytes) (omega arith) none spelled)
  | inr found ↦
      let f = record_front (b ∷ bytes) found.0 found.1 in
      elim (records_upto fuel found.0.1 (omega (arith, few, record_shorter (b ∷ bytes) found.0 found.1))) [
        | inl more ↦ inl (found.0.0 ∷ more.0, (f.text, found.0.1, f.parts, f.has, more.1))
        | inr none ↦
            let first : SpellRecords f.text (found.0.0 ∷ []) = (f.text, [], sym (append-nil f.text), f.has, refl) in
            inr (λ rs spelled. let after = records_after (found.0.0 ∷ []) rs f.text found.0.1 first (subst (λ (t : List ℕ). SpellRecords t rs) f.parts spelled) in none after.0 after.2)
      ]
]

pub records : (bytes : List ℕ) → Decided SpellRecords bytes
records bytes = records_upto (length bytes) bytes (omega arith)

-- a part whose value its records always give
pub part : {V : Type 0} (Says : List Record → V → Type 0) (of : List Record → V) → ((rs : List Record) → Says rs (of rs)) → (bytes : List ℕ) → Decided (Spells Says) bytes
part Says of says bytes = elim (records bytes) [
  | inl h ↦ inl (of h.0, (h.0, h.1, says h.0))
  | inr none ↦ inr (λ v spelled. none spelled.0 spelled.1)
]

-- each element of a list
pub zips : {A B : Type 0} (R : A → B → Type 0) → ((x : A) → Decided R x) → (xs : List A) → Decided (AllZip R) xs
zips R one [] = inl ([], tt)
zips {A} {B} R one (x ∷ xs) = elim (one x) [
  | inr none ↦ inr (no_first none)
  | inl first ↦ elim (zips R one xs) [
    | inr none ↦ inr (no_more none)
    | inl more ↦ inl (first.0 ∷ more.0, (first.1, more.1))
  ]
]
  where
    no_first : ((y : B) → ¬ (R x y)) → (ys : List B) → ¬ (AllZip R (x ∷ xs) ys)
    no_first none [] h = absurd h
    no_first none (y ∷ ys) h = none y h.0

    no_more : ((ys : List B) → ¬ (AllZip R xs ys)) → (ys : List B) → ¬ (AllZip R (x ∷ xs) ys)
    no_more none [] h = absurd h
    no_more none (y ∷ ys) h = none ys h.1
