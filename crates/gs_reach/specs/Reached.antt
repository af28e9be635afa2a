-- How many subscribers were reached, and in how many rounds.
use Rattle.std.specs.Prelude.{ℕ, ◌+◌, ◌-◌, ◌*◌, ◌/◌, max, Bool, false, not, nat_le, if◌then◌else◌, List, [], ◌∷◌, length, filter, map, Option, Some, None, is_some, option_to_list, slice_get}
use Rattle.std.specs.List.{flat_map}
use Rattle.gs_reach.specs.declared.pairs.Pair.{Pair}
use Rattle.gs_reach.specs.declared.spread.Spread.{Spread}
use Rattle.gs_reach.specs.declared.distribution.Within.{Within}
use Rattle.gs_reach.specs.declared.distribution.Distribution.{Distribution}
use Rattle.gs_reach.specs.Order.{ascending}

-- ---- how many

abbrev pub is_reached : Pair → Bool
is_reached x = is_some x.rounds

-- a number is there, and not above a limit
abbrev pub is_at_most : ℕ → Option ℕ → Bool
is_at_most k None = false
is_at_most k (Some n) = nat_le n k

abbrev pub is_reached_within : ℕ → Pair → Bool
is_reached_within k x = is_at_most k x.rounds

abbrev pub reached : List Pair → ℕ
reached pairs = length (filter is_reached pairs)

abbrev pub missed : List Pair → ℕ
missed pairs = length (filter (λ x. not (is_reached x)) pairs)

-- how many were reached in this many rounds or fewer
abbrev pub reached_within : ℕ → List Pair → ℕ
reached_within k pairs = length (filter (is_reached_within k) pairs)

-- ---- percentiles

-- the rounds of those that were reached
abbrev pub rounds_of : List Pair → List ℕ
rounds_of pairs = flat_map (λ (x : Pair). option_to_list x.rounds) pairs

-- In how many rounds as many subscribers as a rank says were reached, or None if fewer were reached at all. The first has rank 1.
abbrev pub fewest : ℕ → List Pair → Option ℕ
fewest rank pairs = slice_get (ascending (λ n. n) (rounds_of pairs)) (rank - 1)

-- the rank of a percentile among `count` subscribers: that percentage of them, rounded up, and at least 1
abbrev pub rank : ℕ → ℕ → ℕ
rank percent count = max 1 ((count * percent + 99) / 100)

-- in how many rounds a percentage of all subscribers was reached, and not only of those that were reached
abbrev pub percentile : ℕ → List Pair → Option ℕ
percentile percent pairs = fewest (rank percent (length pairs)) pairs

abbrev pub spread : List Pair → Spread
spread pairs = record {
  first = fewest 1 pairs;
  median = percentile 50 pairs;
  ninetieth = percentile 90 pairs;
  ninety_ninth = percentile 99 pairs;
  last = percentile 100 pairs;
}

-- ---- distributions

-- limits of rounds; from the third on, each is the sum of the two before it
abbrev pub limits : List ℕ
limits =
    1 ∷ 2 ∷ 3 ∷ 5 ∷ 8 ∷ 13 ∷ 21 ∷ 34 ∷ 55 ∷ 89 ∷ 144 ∷ 233 ∷ 377 ∷ 610 ∷ 987 ∷ 1_597 ∷ 2_584 ∷ 4_181 ∷ 6_765
    ∷ 10_946 ∷ 17_711 ∷ 28_657 ∷ 46_368 ∷ 75_025 ∷ 121_393 ∷ []

-- these limits, up to the first one within which all were reached that were reached at all
abbrev pub shown : List Pair → List ℕ → List ℕ
shown pairs [] = []
shown pairs (k ∷ ks) = if nat_le (reached pairs) (reached_within k pairs) then k ∷ [] else k ∷ shown pairs ks

abbrev pub within : List Pair → ℕ → Within
within pairs k = record { limit = k; reached = reached_within k pairs }

unfoldable pub distribution : List Pair → Distribution
distribution pairs = record {
  pairs = length pairs;
  within = map (within pairs) (shown pairs limits);
  missed = missed pairs;
  spread = spread pairs;
}
