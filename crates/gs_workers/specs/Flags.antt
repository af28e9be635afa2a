-- What holds of a flag that stops tasks.
use Rattle.std.specs.Prelude.{◌≡◌, ℕ, Bool, true, false, List, [], ◌∷◌, ◌++◌, replicate}
use Rattle.atomic_table.specs.Seated.{TableId}

-- which flag it is, by the memory of its word
abbrev pub FlagId : Type 0
FlagId = TableId

-- The word of a flag, and what each of those knows who checked it or set it, in order. First come those who found it not set.
-- Then come those who set it or found it set. The word is 0 as long as none of the latter have come.
pub record IsFlag (words : List ℕ) (views : List Bool) : Type 0 where
  pub word : ℕ
  pub is_word : words ≡ word ∷ []
  pub unset : ℕ
  pub set : ℕ
  pub in_order : views ≡ replicate unset false ++ replicate set true
  pub none : word ≡ 0 → set ≡ 0
  pub zero : set ≡ 0 → word ≡ 0
