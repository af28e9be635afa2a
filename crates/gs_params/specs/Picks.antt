-- Choices among peers by random words. A source of words is a state, with its next word and the state after it.
use Rattle.std.specs.Prelude.{◌≡◌, ℕ, zero, suc, ◌+◌, ◌-◌, ◌%◌, ◌<◌, nat_le, nat_eq, if◌then◌else◌, min, List, [], ◌∷◌, length, take, filter, swap, All, AllPairs, Contains}
use Rattle.std.specs.List.{IsDistinct}
use Rattle.std.specs.Set.{is_member}
use Rattle.gs_base.specs.declared.names.PeerNo.{PeerNo}
use Rattle.gs_base.specs.Names.{same_peer}

-- ---- choices

-- each peer's number is below those of all later ones, so none is listed twice
abbrev pub IsAscending : List PeerNo → Type 0
IsAscending peers = AllPairs (λ p q. p.0 < q.0) peers

-- k of the candidates, or all where there are fewer
pub record IsSample (k : ℕ) (candidates chosen : List PeerNo) : Type 0 where
  pub count : length chosen ≡ min k (length candidates)
  pub members : All (Contains candidates) chosen
  pub ascending : IsAscending chosen
  pub distinct : IsDistinct same_peer chosen

-- ---- words

module _ {S : Type 0} (word : S → ℕ) (after : S → S) where
  -- the next n words
  unfoldable pub next_words : ℕ → S → List ℕ
  next_words zero s = []
  next_words (suc n) s = word s ∷ next_words n (after s)

  -- the state after the next n words
  unfoldable pub after_words : ℕ → S → S
  after_words zero s = s
  after_words (suc n) s = after_words n (after s)

-- ---- picks

-- Place i is exchanged with itself or with one after it, as the first word's remainder says. Then comes place i + 1 by the
-- next word, and so on. (The shuffle of Fisher and Yates, in place, from the front.)
unfoldable pub shuffled : {A : Type 0} → ℕ → List ℕ → List A → List A
shuffled i [] xs = xs
shuffled i (w ∷ ws) xs = shuffled (i + 1) ws (swap xs i (i + w % (length xs - i)))

module _ {S : Type 0} (word : S → ℕ) (after : S → S) where
  -- All candidates, if there are at most k. Else those in the first k places of their shuffle by the next k words,
  -- ascending. The candidates are ascending, and the filter leaves them in their order.
  unfoldable pub picked : ℕ → List PeerNo → S → List PeerNo
  picked k candidates s =
      if nat_le (length candidates) k then candidates
      else filter (is_member same_peer (take k (shuffled 0 (next_words word after k s) candidates))) candidates

  -- the state after such a pick: no word is drawn where all are taken
  unfoldable pub picked_words : ℕ → List PeerNo → S → S
  picked_words k candidates s = if nat_le (length candidates) k then s else after_words word after k s

  -- one of n places: the next word's remainder, and no word where there is only one place
  unfoldable pub picked_one : ℕ → S → ℕ
  picked_one n s = if nat_eq n 1 then 0 else word s % n

  unfoldable pub picked_one_words : ℕ → S → S
  picked_one_words n s = if nat_eq n 1 then s else after s
