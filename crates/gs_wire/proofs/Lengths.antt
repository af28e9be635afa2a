-- The length at the front of a frame.
use Rattle.std.proofs.Common.{◌≡◌, ℕ, zero, suc, ◌+◌, ◌-◌, ◌*◌, ◌^◌, ◌<◌, ◌≤◌, cond, ltb, List, [], ◌∷◌, ◌++◌, length, Option, Some, None, refl, sym, ap, ◌∙◌, append_assoc, length-append, arith, inl, inr, ◌⊎◌}
use Rattle.std.specs.List.{AllByRecursion}
use Rattle.std.proofs.lemmas.Bool.{cases_lt, lt-ltb, le-ltb}
use Rattle.std.proofs.lemmas.Option.{none-some, some_pair_parts}
use Rattle.gs_wire.specs.Reading.{varint_at_most, varint_at}
use Rattle.gs_wire.specs.Stream.{HasLength, BeginsLength}
use Rattle.gs_wire.proofs.Varints.{varint_found, varint_again, varint_front, varint_read, groups_nonempty}

pub length_found : (bytes : List ℕ) (n : ℕ) (rest : List ℕ) → varint_at bytes ≡ Some (n, rest) → HasLength bytes n rest
length_found bytes n rest e = let f = varint_front bytes (n, rest) e in record { len = f.text; parts = f.parts; spells = f.has }

length_read : (bytes : List ℕ) (n : ℕ) (rest : List ℕ) → HasLength bytes n rest → varint_at bytes ≡ Some (n, rest)
length_read bytes n rest h = ap varint_at h.parts ∙ varint_read h.len n rest h.spells

pub no_length : (bytes : List ℕ) → varint_at bytes ≡ None → (n : ℕ) (rest : List ℕ) → HasLength bytes n rest → ⊥
no_length bytes none n rest h = none-some (n, rest) (sym none ∙ length_read bytes n rest h)

-- bytes begin with one length at most
pub one_length : (bytes : List ℕ) (n m : ℕ) (r s : List ℕ) → HasLength bytes n r → HasLength bytes m s → (n ≡ m) × (r ≡ s)
one_length bytes n m r s h k = some_pair_parts n m r s (sym (length_read bytes n r h) ∙ length_read bytes m s k)

pub length_more : (bytes : List ℕ) (n : ℕ) (rest y : List ℕ) → HasLength bytes n rest → HasLength (bytes ++ y) n (rest ++ y)
length_more bytes n rest y h = record { len = h.len; parts = ap (λ (t : List ℕ). t ++ y) h.parts ∙ append_assoc h.len rest y; spells = h.spells }

pub length_shorter : (bytes : List ℕ) (n : ℕ) (rest : List ℕ) → HasLength bytes n rest → length rest < length bytes
length_shorter bytes n rest h = omega (arith, groups_nonempty h.len n h.spells.groups, ap length h.parts, length-append h.len rest)

-- ---- the front of a length

begins_none : (k : ℕ) (bytes : List ℕ) → length bytes < k → AllByRecursion (λ b. 128 ≤ b) bytes → varint_at_most k bytes ≡ None
unfolding varint_at_most
begins_none zero bytes few all = absurd (omega arith)
begins_none (suc k) [] few all = refl
begins_none (suc k) (b ∷ bytes) few all = elim (cases_lt b 256) [
  | inl byte ↦ rw (le-ltb b 128 all.0, lt-ltb b 256 byte, begins_none k bytes (omega arith) all.1) refl
  | inr large ↦ rw (le-ltb b 128 all.0, le-ltb b 256 large) refl
]

begins_at : (bytes : List ℕ) → BeginsLength bytes → varint_at bytes ≡ None
unfolding varint_at
begins_at bytes h = begins_none 10 bytes h.0 h.1

pub begins_no_length : (bytes : List ℕ) → BeginsLength bytes → (n : ℕ) (rest : List ℕ) → HasLength bytes n rest → ⊥
begins_no_length bytes h n rest k = no_length bytes (begins_at bytes h) n rest k

all_front : (x y : List ℕ) → AllByRecursion (λ b. 128 ≤ b) (x ++ y) → AllByRecursion (λ b. 128 ≤ b) x
all_front [] y all = tt
all_front (b ∷ x) y all = (all.0, all_front x y all.1)

pub begins_front : (x y : List ℕ) → BeginsLength (x ++ y) → BeginsLength x
begins_front x y h = (omega (arith, h.0, length-append x y), all_front x y h.1)

-- ---- what has no length and begins none has none however it goes on

found_more : (k : ℕ) (bytes : List ℕ) (x : ℕ × List ℕ) (y : List ℕ) → varint_at_most k bytes ≡ Some x → varint_at_most k (bytes ++ y) ≡ Some (x.0, x.1 ++ y)
found_more k bytes x y e =
    let f = varint_found k bytes x e in
    ap (varint_at_most k) (ap (λ (t : List ℕ). t ++ y) f.parts ∙ append_assoc f.text x.1 y) ∙ varint_again k f.text x.0 (x.1 ++ y) f.groups f.len f.below

pub option_cases : {A : Type 0} (o : Option A) → (o ≡ None) ⊎ ((x : A) × (o ≡ Some x))
option_cases None = inl refl
option_cases (Some x) = inr (x, refl)

stuck_stays : (k : ℕ) (bytes y : List ℕ) → varint_at_most k bytes ≡ None → ¬ ((length bytes < k) × AllByRecursion (λ b. 128 ≤ b) bytes) → varint_at_most k (bytes ++ y) ≡ None
unfolding varint_at_most
stuck_stays zero bytes y none stuck = refl
stuck_stays (suc k) [] y none stuck = absurd (stuck (omega arith, tt))
stuck_stays (suc k) (b ∷ bytes) y none stuck = elim (cases_lt b 128) [
  | inl lt ↦ absurd (none-some (b, bytes) (sym none ∙ rw (lt-ltb b 128 lt) refl))
  | inr le ↦ elim (cases_lt b 256) [
    | inr large ↦ rw (le-ltb b 128 le, le-ltb b 256 large) refl
    | inl byte ↦
        let none2 = rw (le-ltb b 128 le, lt-ltb b 256 byte) at none in
        elim (option_cases (varint_at_most k bytes)) [
          | inl inner ↦ rw (le-ltb b 128 le, lt-ltb b 256 byte, stuck_stays k bytes y inner (λ h. stuck (omega (arith, h.0), (le, h.1)))) refl
          | inr found ↦
              let over : (cond {A = Option (ℕ × List ℕ)} (ltb ((b - 128) + 128 * found.0.0) (2 ^ 64)) (Some ((b - 128) + 128 * found.0.0, found.0.1)) None) ≡ None = rw found.1 at none2 in
              let high : 2 ^ 64 ≤ (b - 128) + 128 * found.0.0 = too_high (b - 128 + 128 * found.0.0) found.0.1 over in
              rw (le-ltb b 128 le, lt-ltb b 256 byte, found_more k bytes found.0 y found.1, le-ltb ((b - 128) + 128 * found.0.0) (2 ^ 64) high) refl
        ]
  ]
]
  where
    too_high : (n : ℕ) (rest : List ℕ) → cond {A = Option (ℕ × List ℕ)} (ltb n (2 ^ 64)) (Some (n, rest)) None ≡ None → 2 ^ 64 ≤ n
    too_high n rest e = elim (cases_lt n (2 ^ 64)) [
      | inl lt ↦ absurd (none-some (n, rest) (sym e ∙ rw (lt-ltb n (2 ^ 64) lt) refl))
      | inr le ↦ le
    ]

no_length_none : (bytes : List ℕ) → ((n : ℕ) (rest : List ℕ) → ¬ (HasLength bytes n rest)) → varint_at bytes ≡ None
no_length_none bytes nowhere = elim (option_cases (varint_at bytes)) [
  | inl none ↦ none
  | inr found ↦ absurd (nowhere found.0.0 found.0.1 (length_found bytes found.0.0 found.0.1 found.1))
]

stuck_at : (bytes y : List ℕ) → varint_at bytes ≡ None → ¬ (BeginsLength bytes) → varint_at (bytes ++ y) ≡ None
unfolding varint_at
stuck_at bytes y none stuck = stuck_stays 10 bytes y none stuck

pub no_length_more : (bytes y : List ℕ) → ¬ (BeginsLength bytes) → ((n : ℕ) (rest : List ℕ) → ¬ (HasLength bytes n rest)) → (n : ℕ) (rest : List ℕ) → HasLength (bytes ++ y) n rest → ⊥
no_length_more bytes y stuck nowhere n rest h = no_length (bytes ++ y) (stuck_at bytes y (no_length_none bytes nowhere) stuck) n rest h
