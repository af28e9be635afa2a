-- What the loops over the groups of a varint keep.
use Rattle.std.proofs.Common.{◌≡◌, ℕ, zero, suc, ◌+◌, ◌/◌, ◌%◌, ◌<◌, ◌≤◌, ◌^◌, List, [], ◌∷◌, ◌++◌, length, refl, sym, ap, ◌∙◌, append_assoc, length-append, arith, inl, inr}
use Rattle.std.proofs.lemmas.Bool.{cases_lt, lt-ltb, le-ltb}
use Rattle.gs_wire.specs.Varint.{varint_within, varint}
use Rattle.gs_wire.proofs.Varints.{HasGroups, ten_groups, varint_step, varint_last}

-- `len` groups were counted, the one that is left included, and the rest is left
pub record Counts (number len rest : ℕ) : Type 0 where
  pub left : ℕ
  pub few : HasGroups left rest
  pub most : len + left ≡ 10
  pub counted : len + length (varint_within left rest) ≡ suc (length (varint number))

pub counts_start : (n : ℕ) → n < 2 ^ 64 → Counts n 1 n
counts_start n below = record { left = 9; few = ten_groups n below; most = refl; counted = omega arith }

pub counts_step : (n len rest : ℕ) → 128 ≤ rest → Counts n len rest → Counts n (len + 1) (rest / 128)
counts_step n len rest le c =
    let s = varint_step c.left rest le c.few in
    record { left = s.0; few = s.3; most = omega (arith, c.most, s.1); counted = omega (arith, c.counted, ap length s.2) }

pub counts_end : (n len rest : ℕ) → rest < 128 → Counts n len rest → len ≡ length (varint n)
counts_end n len rest lt c = omega (arith, c.counted, ap length (varint_last c.left rest lt))

-- some groups were written at the end of a buffer, and the rest is left
pub record Writes (number : ℕ) (before now : List ℕ) (rest : ℕ) : Type 0 where
  pub left : ℕ
  pub few : HasGroups left rest
  pub written : now ++ varint_within left rest ≡ before ++ varint number

pub writes_start : (n : ℕ) (before : List ℕ) → n < 2 ^ 64 → Writes n before before n
writes_start n before below = record { left = 9; few = ten_groups n below; written = refl }

pub writes_step : (n : ℕ) (before now : List ℕ) (rest : ℕ) → 128 ≤ rest → Writes n before now rest → Writes n before (now ++ (128 + rest % 128) ∷ []) (rest / 128)
writes_step n before now rest le w =
    let s = varint_step w.left rest le w.few in
    record { left = s.0; few = s.3; written = append_assoc now ((128 + rest % 128) ∷ []) (varint_within s.0 (rest / 128)) ∙ ap (λ (t : List ℕ). now ++ t) (sym s.2) ∙ w.written }

pub writes_end : (n : ℕ) (before now : List ℕ) (rest : ℕ) → rest < 128 → Writes n before now rest → now ++ rest ∷ [] ≡ before ++ varint n
writes_end n before now rest lt w = ap (λ (t : List ℕ). now ++ t) (sym (varint_last w.left rest lt)) ∙ w.written

pub written_nonempty : (k n : ℕ) → 0 < length (varint_within k n)
unfolding varint_within
written_nonempty zero n = omega arith
written_nonempty (suc k) n = elim (cases_lt n 128) [
  | inl lt ↦ rw (lt-ltb n 128 lt) (omega arith)
  | inr le ↦ rw (le-ltb n 128 le) (omega arith)
]

-- there is room for one more group
pub writes_room : (n : ℕ) (before now : List ℕ) (rest capacity : ℕ) → length before + length (varint n) ≤ capacity → Writes n before now rest → length now < capacity
writes_room n before now rest capacity room w = omega (arith, room, written_nonempty w.left rest, ap length w.written, length-append now (varint_within w.left rest), length-append before (varint n))
