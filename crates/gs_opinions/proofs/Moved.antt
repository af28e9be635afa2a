-- Opinions of one peer that are noted before those of others, and not after them: tables show the same.
use Rattle.std.proofs.Common.{◌≡◌, ◌+◌, ℕ, ℤ, Bool, true, false, if◌then◌else◌, List, [], ◌∷◌, ◌++◌, Option, None, Some, filter, nat_eq, refl, sym, ap, ◌∙◌, append-nil, arith}
use Rattle.std.specs.Prelude.{◌&&◌, fold, int_lt, option_map}
use Rattle.std.specs.List.{AllByRecursion}
use Rattle.std.proofs.lemmas.Bool.Decides.{nat_tests}
use Rattle.std.proofs.lemmas.Int.{ints}
use Rattle.std.proofs.lemmas.List.Elements.{filter-append}
use Rattle.std.proofs.lemmas.List.Sums.{fold-append}
use Rattle.gs_base.specs.declared.names.PeerNo.{PeerNo}
use Rattle.gs_base.specs.Names.{same_peer}
use Rattle.gs_plan.specs.declared.plan.Plan.{Plan}
use Rattle.gs_reach.specs.declared.chosen.Chosen.{Chosen}
use Rattle.gs_seats.specs.Rounds.{numbers}
use Rattle.gs_opinions.specs.declared.opinion.Opinion.{Opinion}
use Rattle.gs_opinions.specs.declared.tables.Tables.{Tables}
use Rattle.gs_opinions.specs.Cells.{by_number}
use Rattle.gs_opinions.specs.Lowest.{lowest}
use Rattle.gs_opinions.specs.Noting.{Shows, ShowsGroup, ShowsRow, lower, lower_score, round_cells}
use Rattle.gs_opinions.specs.Runs.{is_about, is_between, is_in, lowest_between, lowest_in, score_in}
use Rattle.gs_opinions.proofs.Least.{lowest_is, weaker}
use Rattle.gs_opinions.proofs.OneMore.{score_told}
use Rattle.gs_opinions.proofs.Zipped.{zipped_weaker}

-- ---- the least score does not depend on the order

abbrev step : Option ℤ → Opinion → Option ℤ
step found o = lower_score o.score found

-- the lower of two
lower_of_two : (a b : ℤ) → lower_score a (Some b) ≡ lower_score b (Some a)
lower_of_two a b = both (int_lt a b) (int_lt b a) refl refl
  where
    both : (c d : Bool) → int_lt a b ≡ c → int_lt b a ≡ d → (if c then Some a else Some b) ≡ (if d then Some b else Some a)
    both true true p q = absurd (grind (arith, ints))
    both true false p q = refl
    both false true p q = refl
    both false false p q = ap (λ (z : ℤ). Some z) (grind (arith, ints))

lower_twice : (a b : ℤ) (found : Option ℤ) → lower_score a (lower_score b found) ≡ lower_score b (lower_score a found)
lower_twice a b None = lower_of_two a b
lower_twice a b (Some y) = by (int_lt a y) (int_lt b y) refl refl
  where
    by : (c d : Bool) → int_lt a y ≡ c → int_lt b y ≡ d → lower_score a (if d then Some b else Some y) ≡ lower_score b (if c then Some a else Some y)
    by true true p q = lower_of_two a b
    by true false p q = let not_below : int_lt b a ≡ false = grind (arith, ints) in rw (p, not_below) refl
    by false true p q = let not_below : int_lt a b ≡ false = grind (arith, ints) in rw (q, not_below) refl
    by false false p q = rw (p, q) refl

past : (found : Option ℤ) (o : Opinion) (xs : List Opinion) → fold step (step found o) xs ≡ step (fold step found xs) o
past found o [] = refl
past found o (x ∷ xs) =
    ap (λ (f : Option ℤ). fold step f xs) (lower_twice x.score o.score found) ∙ past (step found x) o xs

crossed : (found : Option ℤ) (xs ys : List Opinion) → fold step (fold step found xs) ys ≡ fold step (fold step found ys) xs
crossed found [] ys = refl
crossed found (x ∷ xs) ys =
    crossed (step found x) xs ys ∙ ap (λ (f : Option ℤ). fold step f xs) (past found x ys)

scores_told : (found : Option Opinion) (xs : List Opinion) → option_map score_in (fold (lower score_in) found xs) ≡ fold step (option_map score_in found) xs
scores_told found [] = refl
scores_told found (x ∷ xs) =
    scores_told (lower score_in found x) xs ∙ ap (λ (f : Option ℤ). fold step f xs) (score_told found x)

abbrev least : List Opinion → Option ℤ
least os = option_map score_in (lowest score_in os)

least_is : (xs : List Opinion) → least xs ≡ fold step None xs
least_is xs = ap (option_map score_in) (sym (lowest_is score_in xs)) ∙ scores_told None xs

least_moved : (first xs ys : List Opinion) → least ((first ++ xs) ++ ys) ≡ least ((first ++ ys) ++ xs)
least_moved first xs ys =
    least_is ((first ++ xs) ++ ys)
    ∙ both xs ys
    ∙ crossed (fold step None first) xs ys
    ∙ sym (both ys xs)
    ∙ sym (least_is ((first ++ ys) ++ xs))
  where
    both : (us vs : List Opinion) → fold step None ((first ++ us) ++ vs) ≡ fold step (fold step (fold step None first) us) vs
    both us vs =
        fold-append step None (first ++ us) vs
        ∙ ap (λ (f : Option ℤ). fold step f vs) (fold-append step None first us)

-- ---- of those that pass a test

parted : (test : Opinion → Bool) (first xs ys : List Opinion) → filter test ((first ++ xs) ++ ys) ≡ (filter test first ++ filter test xs) ++ filter test ys
parted test first xs ys =
    filter-append test (first ++ xs) ys
    ∙ ap (λ (os : List Opinion). os ++ filter test ys) (filter-append test first xs)

least_kept : (test : Opinion → Bool) (first xs ys : List Opinion) → least (filter test ((first ++ xs) ++ ys)) ≡ least (filter test ((first ++ ys) ++ xs))
least_kept test first xs ys =
    ap least (parted test first xs ys)
    ∙ least_moved (filter test first) (filter test xs) (filter test ys)
    ∙ ap least (sym (parted test first ys xs))

none_passes : (test : Opinion → Bool) (os : List Opinion) → AllByRecursion (λ o. test o ≡ false) os → filter test os ≡ []
none_passes test [] h = refl
none_passes test (o ∷ os) h = ap (λ (b : Bool). if b then o ∷ filter test os else filter test os) h.0 ∙ none_passes test os h.1

-- ---- opinions of a peer, and those of others

abbrev pub AreBy : PeerNo → List Opinion → Type 0
AreBy p os = AllByRecursion (λ (o : Opinion). same_peer o.by p ≡ true) os

abbrev pub AreByOthers : PeerNo → List Opinion → Type 0
AreByOthers p os = AllByRecursion (λ (o : Opinion). same_peer o.by p ≡ false) os

module _ (p : PeerNo) (first others own : List Opinion) (by_others : AreByOthers p others) (by_it : AreBy p own) where
  abbrev after : List Opinion
  after = (first ++ others) ++ own

  abbrev before : List Opinion
  before = (first ++ own) ++ others

  between_moved : (a q : PeerNo) → lowest_between after a q ≡ lowest_between before a q
  between_moved a q =
      ap (λ (os : List Opinion). option_map lowest_in (lowest score_in os))
      (parted (is_between a q) first others own ∙ by (same_peer a p) refl ∙ sym (parted (is_between a q) first own others))
    where
      no : (x y : Bool) → x ≡ false → (x && y) ≡ false
      no x y is = ap (λ (z : Bool). z && y) is

      -- no other peer is this one
      not_others : same_peer a p ≡ true → (o : Opinion) → same_peer o.by p ≡ false → is_between a q o ≡ false
      not_others same o is = no (same_peer o.by a) (same_peer o.of q) (other a.0 o.by.0 p.0 same is)
        where
          other : (a b p : ℕ) → nat_eq a p ≡ true → nat_eq b p ≡ false → nat_eq b a ≡ false
          other a b p h k = grind (arith, nat_tests)

      not_own : same_peer a p ≡ false → (o : Opinion) → same_peer o.by p ≡ true → is_between a q o ≡ false
      not_own same o is = no (same_peer o.by a) (same_peer o.of q) (other a.0 o.by.0 p.0 same is)
        where
          other : (a b p : ℕ) → nat_eq a p ≡ false → nat_eq b p ≡ true → nat_eq b a ≡ false
          other a b p h k = grind (arith, nat_tests)

      by : (c : Bool) → same_peer a p ≡ c → (filter (is_between a q) first ++ filter (is_between a q) others) ++ filter (is_between a q) own ≡ (filter (is_between a q) first ++ filter (is_between a q) own) ++ filter (is_between a q) others
      by true same =
          let none = none_passes (is_between a q) others (weaker _ _ (not_others same) others by_others) in
          let f = filter (is_between a q) first in
          let x = filter (is_between a q) own in
          ap (λ (os : List Opinion). (f ++ os) ++ x) none ∙ ap (λ (os : List Opinion). os ++ x) (append-nil f) ∙ sym (append-nil (f ++ x)) ∙ ap (λ (os : List Opinion). (f ++ x) ++ os) (sym none)
      by false same =
          let none = none_passes (is_between a q) own (weaker _ _ (not_own same) own by_it) in
          let f = filter (is_between a q) first in
          let x = filter (is_between a q) others in
          ap (λ (os : List Opinion). (f ++ x) ++ os) none ∙ append-nil (f ++ x) ∙ ap (λ (os : List Opinion). os ++ x) (sym (append-nil f)) ∙ ap (λ (os : List Opinion). (f ++ os) ++ x) (sym none)

  module _ (plan : Plan) where
    cells_moved : round_cells plan after ≡ round_cells plan before
    cells_moved = λ i. by_number (λ r. least_kept (is_in plan r) first others own i) (plan.rounds + 1)

    about_moved : (group : Chosen) → round_cells plan (filter (is_about group) after) ≡ round_cells plan (filter (is_about group) before)
    about_moved group =
        ap (λ (os : List Opinion). round_cells plan os) (parted (is_about group) first others own)
        ∙ (λ i. by_number (λ r. least_kept (is_in plan r) (filter (is_about group) first) (filter (is_about group) others) (filter (is_about group) own) i) (plan.rounds + 1))
        ∙ ap (λ (os : List Opinion). round_cells plan os) (sym (parted (is_about group) first own others))

    -- the tables that show the ones after the others show them before these
    pub shows_moved : (groups : List Chosen) (tables : Tables) → Shows plan groups tables after → Shows plan groups tables before
    shows_moved groups tables shows = record {
      lasts = shows.lasts;
      round_ms = shows.round_ms;
      pairs = zipped_weaker (ShowsRow after) (ShowsRow before) (λ a row h. λ q. h q ∙ between_moved a q) (numbers plan) tables.pairs.items shows.pairs;
      rounds = shows.rounds ∙ cells_moved;
      groups = zipped_weaker (ShowsGroup plan after) (ShowsGroup plan before) (λ group x h. record {
        members = h.members;
        rounds = h.rounds ∙ about_moved group;
      }) groups tables.groups.items shows.groups;
    }
