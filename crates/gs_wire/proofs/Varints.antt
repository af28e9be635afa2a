-- Reading a varint finds a spelling of it, and finds each spelling. The written spelling is one, and none is shorter.
use Rattle.std.proofs.Common.{◌≡◌, ℕ, zero, suc, ◌+◌, ◌-◌, ◌*◌, ◌/◌, ◌%◌, ◌^◌, ◌<◌, ◌≤◌, cond, ltb, List, [], ◌∷◌, ◌++◌, length, Option, Some, None, refl, ap, subst, arith, inl, inr}
use Rattle.std.proofs.lemmas.Bool.{cases_lt, ltb-true, lt-ltb, le-ltb}
use Rattle.std.proofs.lemmas.Option.{cond_some, same_Some}
use Rattle.gs_wire.specs.Varint.{AreGroups, IsVarint, varint_within, varint}
use Rattle.gs_wire.specs.Reading.{◌>>=◌, varint_at_most, varint_at}

-- the value of a step that did not fail
pub bind_some : {A B : Type 0} (r : Option A) (f : A → Option B) (y : B) → (r >>= f) ≡ Some y → (x : A) × (r ≡ Some x) × (f x ≡ Some y)
bind_some (Some x) f y e = (x, refl, e)
bind_some None f y e = absurd cc

-- a text at the front that has P
pub record Front (P : List ℕ → Type 0) (bytes rest : List ℕ) : Type 0 where
  pub text : List ℕ
  pub parts : bytes ≡ text ++ rest
  pub has : P text

-- ---- what is read is spelled

pub record Found (most : ℕ) (bytes : List ℕ) (n : ℕ) (rest : List ℕ) : Type 0 where
  pub text : List ℕ
  pub parts : bytes ≡ text ++ rest
  pub groups : AreGroups text n
  pub len : length text ≤ most
  pub below : n < 2 ^ 64

more_groups : (b high : ℕ) (text : List ℕ) → 128 ≤ b → b < 256 → AreGroups text high → AreGroups (b ∷ text) ((b - 128) + 128 * high)
more_groups b high [] p q h = absurd h
more_groups b high (c ∷ text) p q h = (p, q, (high, omega arith, h))

pub varint_found : (k : ℕ) (bytes : List ℕ) (x : ℕ × List ℕ) → varint_at_most k bytes ≡ Some x → Found k bytes x.0 x.1
unfolding varint_at_most
varint_found zero bytes x e = absurd cc
varint_found (suc k) [] x e = absurd cc
varint_found (suc k) (b ∷ bytes) x e =
    elim (cases_lt b 128) [
      | inl lt ↦
          let e2 : Some (b, bytes) ≡ Some x = rw (lt-ltb b 128 lt) at e in
          subst (λ (y : ℕ × List ℕ). Found (suc k) (b ∷ bytes) y.0 y.1) (same_Some (b, bytes) x e2) (record { text = b ∷ []; parts = refl; groups = (lt, refl); len = omega arith; below = omega arith })
      | inr le ↦ elim (cases_lt b 256) [
        | inl byte ↦
            let e2 = rw (le-ltb b 128 le, lt-ltb b 256 byte) at e in
            let s = bind_some (varint_at_most k bytes) (λ high. cond (ltb ((b - 128) + 128 * high.0) (2 ^ 64)) (Some ((b - 128) + 128 * high.0, high.1)) None) x e2 in
            let f = varint_found k bytes s.0 s.1 in
            let g = cond_some (ltb ((b - 128) + 128 * s.0.0) (2 ^ 64)) ((b - 128) + 128 * s.0.0, s.0.1) x s.2 in
            subst (λ (y : ℕ × List ℕ). Found (suc k) (b ∷ bytes) y.0 y.1) g.1 (record {
              text = b ∷ f.text;
              parts = ap (λ (t : List ℕ). b ∷ t) f.parts;
              groups = more_groups b s.0.0 f.text le byte f.groups;
              len = omega (arith, f.len);
              below = ltb-true _ _ g.0;
            })
        | inr large ↦
            let e2 : None ≡ Some x = rw (le-ltb b 128 le, le-ltb b 256 large) at e in
            absurd cc
      ]
    ]

pub varint_front : (bytes : List ℕ) (x : ℕ × List ℕ) → varint_at bytes ≡ Some x → Front (λ t. IsVarint t x.0) bytes x.1
unfolding varint_at
varint_front bytes x e =
    let f = varint_found 10 bytes x e in
    record { text = f.text; parts = f.parts; has = record { groups = f.groups; at_most_ten = f.len; below = f.below } }

-- ---- each spelling is read, whatever follows it

pub varint_again : (k : ℕ) (text : List ℕ) (n : ℕ) (rest : List ℕ) → AreGroups text n → length text ≤ k → n < 2 ^ 64 → varint_at_most k (text ++ rest) ≡ Some (n, rest)
unfolding varint_at_most
varint_again k [] n rest h len below = absurd h
varint_again zero (b ∷ text) n rest h len below = absurd (omega arith)
varint_again (suc k) (b ∷ []) n rest h len below = rw (lt-ltb b 128 h.0, h.1) refl
varint_again (suc k) (b ∷ c ∷ text) n rest h len below =
    let high = h.2.0 in
    let is : (b - 128) + 128 * high ≡ n = omega (arith, h.0, h.2.1) in
    let inner : varint_at_most k ((c ∷ text) ++ rest) ≡ Some (high, rest) = varint_again k (c ∷ text) high rest h.2.2 (omega arith) (omega (arith, h.0, h.1, h.2.1)) in
    rw (le-ltb b 128 h.0, lt-ltb b 256 h.1, inner, is, lt-ltb n (2 ^ 64) below) refl

pub varint_read : (text : List ℕ) (n : ℕ) (rest : List ℕ) → IsVarint text n → varint_at (text ++ rest) ≡ Some (n, rest)
unfolding varint_at
varint_read text n rest h = varint_again 10 text n rest h.groups h.at_most_ten h.below

pub groups_nonempty : (text : List ℕ) (n : ℕ) → AreGroups text n → 0 < length text
groups_nonempty [] n h = absurd h
groups_nonempty (b ∷ text) n h = omega arith

-- ---- the spelling that is written

-- the number has at most this many groups and one more
abbrev pub HasGroups : ℕ → ℕ → Type 0
HasGroups zero n = n < 128
HasGroups (suc k) n = HasGroups k (n / 128)

pub ten_groups : (n : ℕ) → n < 2 ^ 64 → HasGroups 9 n
ten_groups n below = omega arith

written_head : (k n : ℕ) → (b : ℕ) × (text : List ℕ) × (varint_within k n ≡ b ∷ text)
unfolding varint_within
written_head zero n = (n, [], refl)
written_head (suc k) n = elim (cases_lt n 128) [
  | inl lt ↦ (n, [], rw (lt-ltb n 128 lt) refl)
  | inr le ↦ (128 + n % 128, varint_within k (n / 128), rw (le-ltb n 128 le) refl)
]

pub written_groups : (k n : ℕ) → HasGroups k n → AreGroups (varint_within k n) n
unfolding varint_within
written_groups zero n few = (few, refl)
written_groups (suc k) n few = elim (cases_lt n 128) [
  | inl lt ↦ rw (lt-ltb n 128 lt) (lt, refl)
  | inr le ↦
      let more = written_groups k (n / 128) few in
      let first = written_head k (n / 128) in
      let inner : AreGroups (first.0 ∷ first.1) (n / 128) = rw first.2 at more in
      let whole : AreGroups ((128 + n % 128) ∷ first.0 ∷ first.1) n = (omega arith, omega arith, (n / 128, omega arith, inner)) in
      rw (le-ltb n 128 le, first.2) whole
]

pub written_len : (k n : ℕ) → length (varint_within k n) ≤ suc k
unfolding varint_within
written_len zero n = omega arith
written_len (suc k) n = elim (cases_lt n 128) [
  | inl lt ↦ rw (lt-ltb n 128 lt) (omega arith)
  | inr le ↦ rw (le-ltb n 128 le) (omega (arith, written_len k (n / 128)))
]

pub written_varint : (n : ℕ) → n < 2 ^ 64 → IsVarint (varint n) n
written_varint n below = record { groups = written_groups 9 n (ten_groups n below); at_most_ten = written_len 9 n; below = below }

pub written_shortest : (k : ℕ) (text : List ℕ) (n : ℕ) → AreGroups text n → length (varint_within k n) ≤ length text
unfolding varint_within
written_shortest k [] n h = absurd h
written_shortest zero (b ∷ text) n h = omega arith
written_shortest (suc k) (b ∷ []) n h =
    let lt : n < 128 = omega (arith, h.0, h.1) in
    rw (lt-ltb n 128 lt) (omega arith)
written_shortest (suc k) (b ∷ c ∷ text) n h = elim (cases_lt n 128) [
  | inl lt ↦ rw (lt-ltb n 128 lt) (omega arith)
  | inr le ↦
      let high : n / 128 ≡ h.2.0 = omega (arith, h.0, h.1, h.2.1) in
      rw (le-ltb n 128 le, high) (omega (arith, written_shortest k (c ∷ text) h.2.0 h.2.2))
]

-- one byte
pub varint_small : (n : ℕ) → n < 128 → varint n ≡ n ∷ []
unfolding varint_within
varint_small n lt = rw (lt-ltb n 128 lt) refl

-- a group is written, and the rest is left
pub varint_step : (k n : ℕ) → 128 ≤ n → HasGroups k n → (j : ℕ) × (k ≡ suc j) × (varint_within k n ≡ (128 + n % 128) ∷ varint_within j (n / 128)) × HasGroups j (n / 128)
unfolding varint_within
varint_step zero n le few = absurd (omega arith)
varint_step (suc j) n le few = (j, refl, rw (le-ltb n 128 le) refl, few)

-- the last group
pub varint_last : (k n : ℕ) → n < 128 → varint_within k n ≡ n ∷ []
unfolding varint_within
varint_last zero n lt = refl
varint_last (suc k) n lt = rw (lt-ltb n 128 lt) refl
