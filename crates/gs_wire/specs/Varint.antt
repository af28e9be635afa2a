-- Base 128 varints (Protocol Buffers, Encoding, "Base 128 Varints").
use Rattle.std.specs.Prelude.{◌≡◌, ℕ, zero, suc, ◌+◌, ◌*◌, ◌/◌, ◌%◌, ◌<◌, ◌≤◌, ◌^◌, List, [], ◌∷◌, length, nat_lt, if◌then◌else◌}

-- Groups of seven bits, the lowest first. A byte from 128 on says that more follow.
abbrev pub AreGroups : List ℕ → ℕ → Type 0
AreGroups [] n = ⊥
AreGroups (b ∷ []) n = (b < 128) × (n ≡ b)
AreGroups (b ∷ c ∷ bytes) n =
    (128 ≤ b) × (b < 256)
    × ((high : ℕ) × (n + 128 ≡ b + 128 * high) × AreGroups (c ∷ bytes) high)

-- The bytes are a spelling of a number. There are several, since the last groups may be zero.
pub record IsVarint (bytes : List ℕ) (n : ℕ) : Type 0 where
  pub groups : AreGroups bytes n
  pub at_most_ten : length bytes ≤ 10
  pub below : n < 2 ^ 64

-- the groups of a number, as few as it needs, but at most one more than this many
unfoldable pub varint_within : ℕ → ℕ → List ℕ
varint_within zero n = n ∷ []
varint_within (suc k) n = if nat_lt n 128 then n ∷ [] else (128 + n % 128) ∷ varint_within k (n / 128)

-- the shortest spelling of a number below 2 ^ 64
abbrev pub varint : ℕ → List ℕ
varint n = varint_within 9 n
