-- The entries of a peer's row in their order, which is that of the numbers of peers.
use Rattle.std.proofs.Common.{◌≡◌, ◌<◌, ◌≤◌, ◌+◌, ℕ, zero, suc, Bool, true, false, cond, if◌then◌else◌, nat_eq, List, [], ◌∷◌, ◌++◌, flat_map, Option, None, Some, refl, sym, ap, ap₂, ◌∙◌, arith}
use Rattle.std.specs.Prelude.{nat_lt}
use Rattle.std.specs.List.{AllByRecursion, range_with_len}
use Rattle.std.specs.List.Sorted.{IsStrictlySortedBy}
use Rattle.std.specs.Map.{lookup, keys_of}
use Rattle.std.specs.Ordering.{is_eq}
use Rattle.std.specs.declared.cmp.Ordering.TheVariants.{Less}
use Rattle.std.proofs.lemmas.Bool.Decides.{nat_tests}
use Rattle.gs_base.specs.declared.names.PeerNo.{PeerNo}
use Rattle.gs_base.specs.Names.{same_peer}
use Rattle.gs_seats.specs.Rounds.{peer_no}
use Rattle.gs_opinions.specs.declared.opinion.Lowest.{Lowest}
use Rattle.gs_opinions.specs.declared.run.PairOpinion.{PairOpinion}
use Rattle.gs_opinions.specs.Listing.{pair_below}
use Rattle.gs_opinions.specs.Noting.{peer_order}
use Rattle.gs_opinions.specs.Runs.{pair_row}

abbrev pub Row : Type 0
Row = List (PeerNo × Lowest)

abbrev pub look : PeerNo → Row → Option Lowest
look q es = lookup (λ r. is_eq (peer_order q r)) es

-- ---- the order

pub same_order : (q r : PeerNo) → is_eq (peer_order q r) ≡ same_peer q r
same_order q r = grind (arith, nat_tests)

is_below : (q r : PeerNo) → peer_order q r ≡ Less → q.0 < r.0
is_below q r less = grind (arith, nat_tests)

-- each is at least this number
abbrev FromOn : ℕ → List PeerNo → Type 0
FromOn a qs = AllByRecursion (λ (q : PeerNo). a ≤ q.0) qs

later_on : (q : PeerNo) (a : ℕ) → a ≤ q.0 → (qs : List PeerNo) → AllByRecursion (λ r. peer_order q r ≡ Less) qs → FromOn (a + 1) qs
later_on q a low [] h = tt
later_on q a low (r ∷ qs) h = (let less = is_below q r h.0 in omega (arith, low, less), later_on q a low qs h.1)

-- none of them is at a lower number
none_below : (a m : ℕ) (es : Row) → m < a → FromOn a (keys_of es) → look (peer_no m) es ≡ None
none_below a m [] low h = refl
none_below a m ((q, x) ∷ es) low h =
    ap (λ (b : Bool). cond b (Some x) (look (peer_no m) es)) (same_order (peer_no m) q ∙ apart m q.0 (let from = h.0 in omega (arith, low, from)))
    ∙ none_below a m es low h.1
  where
    apart : (j r : ℕ) → j < r → nat_eq j r ≡ false
    apart j r below = grind (arith, nat_tests)

-- ---- rows

module _ (p : PeerNo) where
  -- an entry as a row, if it is about one of this many peers
  abbrev pub as_row : ℕ → PeerNo × Lowest → List PairOpinion
  as_row count e = pair_below count (record { by = p; of = e.0; lowest = e.1 })

  abbrev row_of : Row → ℕ → List PairOpinion
  row_of es m = pair_row p (peer_no m) (look (peer_no m) es)

  -- those from a number on are none below it
  none_kept : (a : ℕ) (es : Row) → FromOn a (keys_of es) → flat_map (as_row a) es ≡ []
  none_kept a [] h = refl
  none_kept a ((q, x) ∷ es) h =
      ap₂ (λ (b : Bool) (rest : List PairOpinion). (if b then record { by = p; of = q; lowest = x } ∷ [] else []) ++ rest) (not_below q.0 a h.0) (none_kept a es h.1)
    where
      not_below : (n a : ℕ) → a ≤ n → nat_lt n a ≡ false
      not_below n a high = grind (arith, nat_tests)

  no_rows : (a n : ℕ) → flat_map (row_of []) (range_with_len a n) ≡ []
  no_rows a zero = refl
  no_rows a (suc n) = no_rows (a + 1) n

  same_from : (f g : ℕ → List PairOpinion) (a n : ℕ) → ((m : ℕ) → a ≤ m → f m ≡ g m) → flat_map f (range_with_len a n) ≡ flat_map g (range_with_len a n)
  same_from f g a zero same = refl
  same_from f g a (suc n) same =
      ap₂ (λ (xs ys : List PairOpinion). xs ++ ys) (same a (omega arith)) (same_from f g (a + 1) n (λ m low. same m (omega (arith, low))))

  rows_from : (a n j : ℕ) (es : Row) → a + n ≡ j → IsStrictlySortedBy peer_order (keys_of es) → FromOn a (keys_of es) → flat_map (as_row j) es ≡ flat_map (row_of es) (range_with_len a n)
  unfolding IsStrictlySortedBy
  rows_from a zero j es is sorted from = ap (λ (k : ℕ). flat_map (as_row k) es) (omega (arith, is)) ∙ none_kept a es from
  rows_from a (suc n) j [] is sorted from = sym (no_rows (a + 1) n)
  rows_from a (suc n) j ((q, x) ∷ es) is sorted from =
      by (nat_eq q.0 a) refl (rows_from (a + 1) n j es (omega (arith, is)) sorted.1) (rows_from (a + 1) n j ((q, x) ∷ es) (omega (arith, is)) sorted)
    where
      low_enough : (q : PeerNo) → q.0 ≡ a → nat_lt q.0 j ≡ true
      low_enough q same = let less : q.0 < j = omega (arith, is, same) in grind (arith, nat_tests)

      equal : (b : Bool) → nat_eq q.0 a ≡ b → b ≡ true → q.0 ≡ a
      equal b same is_so = grind (arith, nat_tests)

      itself : same_peer (peer_no q.0) q ≡ true
      itself = grind (arith, nat_tests)

      higher : nat_eq q.0 a ≡ false → a ≤ q.0 → a + 1 ≤ q.0
      higher differs low = grind (arith, nat_tests)

      apart : (j r : ℕ) → r < j → nat_eq j r ≡ false
      apart j r below = grind (arith, nat_tests)

      by : (b : Bool) → nat_eq q.0 a ≡ b
          → (FromOn (a + 1) (keys_of es) → flat_map (as_row j) es ≡ flat_map (row_of es) (range_with_len (a + 1) n))
          → (FromOn (a + 1) (keys_of ((q, x) ∷ es)) → flat_map (as_row j) ((q, x) ∷ es) ≡ flat_map (row_of ((q, x) ∷ es)) (range_with_len (a + 1) n))
          → flat_map (as_row j) ((q, x) ∷ es) ≡ flat_map (row_of ((q, x) ∷ es)) (range_with_len a (suc n))
      by true same after with_it =
          let here : q.0 ≡ a = equal true same refl in
          let rest : FromOn (a + 1) (keys_of es) = later_on q a from.0 (keys_of es) sorted.0 in
          let first : as_row j (q, x) ≡ row_of ((q, x) ∷ es) a =
          ap (λ (b : Bool). if b then record { by = p; of = q; lowest = x } ∷ [] else []) (low_enough q here)
          ∙ sym (ap (λ (b : Bool). pair_row p (peer_no q.0) (cond b (Some x) (look (peer_no q.0) es))) (same_order (peer_no q.0) q ∙ itself))
          ∙ ap (row_of ((q, x) ∷ es)) here in
          let skipped : (m : ℕ) → a + 1 ≤ m → row_of es m ≡ row_of ((q, x) ∷ es) m =
          λ m past. sym (ap (λ (b : Bool). pair_row p (peer_no m) (cond b (Some x) (look (peer_no m) es))) (same_order (peer_no m) q ∙ apart m q.0 (omega (arith, past, here)))) in
          ap₂ (λ (xs ys : List PairOpinion). xs ++ ys) first
          (after rest ∙ same_from (row_of es) (row_of ((q, x) ∷ es)) (a + 1) n skipped)
      by false same after with_it =
          let above : a + 1 ≤ q.0 = higher same from.0 in
          let rest : FromOn (a + 1) (keys_of ((q, x) ∷ es)) = (above, later_on q a from.0 (keys_of es) sorted.0) in
          with_it rest
          ∙ ap (λ (o : Option Lowest). pair_row p (peer_no a) o ++ flat_map (row_of ((q, x) ∷ es)) (range_with_len (a + 1) n)) (sym (none_below (a + 1) a ((q, x) ∷ es) (omega arith) rest))

  -- the entries as rows are what is found for each number
  pub rows_in_order : (count : ℕ) (es : Row) → IsStrictlySortedBy peer_order (keys_of es) → flat_map (as_row count) es ≡ flat_map (row_of es) (range_with_len 0 count)
  rows_in_order count es sorted = rows_from 0 count count es (omega arith) sorted (all_from (keys_of es))
    where
      all_from : (qs : List PeerNo) → FromOn 0 qs
      all_from [] = tt
      all_from (q ∷ qs) = (omega arith, all_from qs)
