-- Counters by number.
use Rattle.std.proofs.Common.{◌≡◌, ◌<◌, ◌+◌, ℕ, zero, suc, nat_eq, nat_lt, Bool, true, false, List, [], ◌∷◌, ◌++◌, get_or, length, reverse, set, Bor, Option, Some, None, refl, sym, ap, subst, ◌∙◌, arith}
use Rattle.std.specs.Prelude.{◌&&◌, if◌then◌else◌, is_some, option_copied, slice_get}
use Rattle.std.proofs.lemmas.Bool.{false≢true}
use Rattle.std.proofs.lemmas.Bool.Decides.{nat_tests}
use Rattle.std.proofs.lemmas.List.{length-set, length_push}
use Rattle.std.proofs.lemmas.Option.{slice_get_past, slice_get_read, slice_get_within}
use Rattle.gs_base.specs.declared.names.PeerNo.{PeerNo}
use Rattle.gs_plan.specs.declared.plan.Plan.{Plan}
use Rattle.gs_rules.specs.declared.trace.Entry.{Entry}
use Rattle.gs_rules.specs.Tables.{Entries}
use Rattle.gs_reach.specs.Chosen.{is_chosen}
use Rattle.gs_reach.specs.declared.chosen.Chosen.{Chosen}
use Rattle.gs_report.specs.Seen.{added}
use Rattle.gs_seats.specs.Rounds.{peer_no}
use Rattle.gs_counts.specs.declared.traces.PeerCounter.{PeerCounter}
use Rattle.gs_counts.specs.Counting.{AreCounters, IfCounted, counter_of}

-- ---- elements of lists

get_set : {A : Type 0} (xs : List A) (i : ℕ) (y : A) → i < length xs → slice_get (set xs i y) i ≡ Some y
get_set [] i y below = absurd (omega (arith, below))
get_set (x ∷ xs) zero y below = refl
get_set (x ∷ xs) (suc i) y below = get_set xs i y (omega (arith, below))

get_other : {A : Type 0} (xs : List A) (i j : ℕ) (y : A) → (i ≡ j → ⊥) → slice_get (set xs i y) j ≡ slice_get xs j
get_other [] i j y apart = refl
get_other (x ∷ xs) zero zero y apart = absurd (apart refl)
get_other (x ∷ xs) zero (suc j) y apart = refl
get_other (x ∷ xs) (suc i) zero y apart = refl
get_other (x ∷ xs) (suc i) (suc j) y apart = get_other xs i j y (λ e. apart (ap suc e))

get_before : {A : Type 0} (xs : List A) (y : A) (i : ℕ) → i < length xs → slice_get (xs ++ y ∷ []) i ≡ slice_get xs i
get_before [] y i below = absurd (omega (arith, below))
get_before (x ∷ xs) y zero below = refl
get_before (x ∷ xs) y (suc i) below = get_before xs y i (omega (arith, below))

get_last : {A : Type 0} (xs : List A) (y : A) (i : ℕ) → i ≡ length xs → slice_get (xs ++ y ∷ []) i ≡ Some y
get_last [] y i is = ap (slice_get (y ∷ [])) is
get_last (x ∷ xs) y zero is = absurd (omega (arith, is))
get_last (x ∷ xs) y (suc i) is = get_last xs y i (omega (arith, is))

get_none : {A : Type 0} (xs : List A) (i : ℕ) → (i < length xs → ⊥) → slice_get xs i ≡ None
get_none [] i past = refl
get_none (x ∷ xs) zero past = absurd (past (omega arith))
get_none (x ∷ xs) (suc i) past = get_none xs i (λ low. past (omega (arith, low)))

-- ---- calls

-- what a look-up at the number of a peer finds
pub found_there : (counters : List (Option PeerCounter)) (p : PeerNo) (i : ℕ) (o : Option PeerCounter) → i ≡ p.0 → i < length counters → o ≡ get_or counters i o → slice_get counters p.0 ≡ Some o
found_there counters p i o is below at =
    ap (slice_get counters) (sym is) ∙ slice_get_read counters (length counters) i o refl below at

pub found_nowhere : (counters : List (Option PeerCounter)) (p : PeerNo) (i : ℕ) → i ≡ p.0 → (i < length counters → false ≡ true) → slice_get counters p.0 ≡ None
found_nowhere counters p i is past =
    get_none counters p.0 (λ low. false≢true (past (omega (arith, is, low))))

pub is_some_copied : {A : Type 0} (o : Option (Bor A)) → is_some (option_copied o) ≡ is_some o
is_some_copied None = refl
is_some_copied (Some x) = refl

-- the counter where an element stands, if there is one
abbrev pub counter_where : Option (Option PeerCounter) → Option PeerCounter
counter_where found = elim found [ None ↦ None | Some counter ↦ counter ]

-- ---- one more counter

module _ (plan : Plan) (of : Chosen) (count : ℕ) (counters : List (Option PeerCounter)) (o : Option PeerCounter) (are : AreCounters count plan of counters (λ p. [])) (chosen : is_some o ≡ is_chosen of (peer_no count)) (seen : IfCounted plan (peer_no count) [] o) where
  stays : (p : PeerNo) → nat_lt p.0 count ≡ true → counter_of (counters ++ o ∷ []) p ≡ counter_of counters p
  stays p low =
      let many = are.many in
      ap counter_where (get_before counters o p.0 (grind (arith, nat_tests)))

  comes : (p : PeerNo) → nat_eq p.0 count ≡ true → counter_of (counters ++ o ∷ []) p ≡ o
  comes p same =
      let many = are.many in
      let here : p.0 ≡ count = grind (arith, nat_tests) in
      ap counter_where (get_last counters o p.0 (omega (arith, many, here)))

  lacks : (p : PeerNo) → nat_lt p.0 count ≡ false → nat_eq p.0 count ≡ false → counter_of (counters ++ o ∷ []) p ≡ None
  lacks p high apart =
      let many = are.many in
      let long = length_push counters o in
      let past : count < p.0 = grind (arith, nat_tests) in
      ap counter_where (slice_get_past (counters ++ o ∷ []) p.0 (omega (arith, many, long, past)))

  chosen_there : (p : PeerNo) (low same : Bool) → nat_lt p.0 count ≡ low → nat_eq p.0 count ≡ same → is_some (counter_of (counters ++ o ∷ []) p) ≡ (nat_lt p.0 (count + 1) && is_chosen of p)
  chosen_there p true same is_low is_same =
      let below : nat_lt p.0 (count + 1) ≡ true = grind (arith, nat_tests) in
      ap is_some (stays p is_low) ∙ are.chosen p ∙ ap (λ (b : Bool). b && is_chosen of p) (is_low ∙ sym below)
  chosen_there p false true is_low is_same =
      let here : p.0 ≡ count = grind (arith, nat_tests) in
      let below : nat_lt p.0 (count + 1) ≡ true = grind (arith, nat_tests) in
      ap is_some (comes p is_same) ∙ chosen ∙ ap (λ (n : ℕ). is_chosen of (peer_no n)) (sym here) ∙ ap (λ (b : Bool). b && is_chosen of p) (sym below)
  chosen_there p false false is_low is_same =
      let above : nat_lt p.0 (count + 1) ≡ false = grind (arith, nat_tests) in
      ap is_some (lacks p is_low is_same) ∙ ap (λ (b : Bool). b && is_chosen of p) (sym above)

  one_seen : (p : PeerNo) (low same : Bool) → nat_lt p.0 count ≡ low → nat_eq p.0 count ≡ same → IfCounted plan p [] (counter_of (counters ++ o ∷ []) p)
  one_seen p true same is_low is_same = subst (IfCounted plan p []) (sym (stays p is_low)) (are.seen p)
  one_seen p false true is_low is_same =
      let here : p.0 ≡ count = grind (arith, nat_tests) in
      subst (IfCounted plan p []) (sym (comes p is_same)) (subst (λ (n : ℕ). IfCounted plan (peer_no n) [] o) (sym here) seen)
  one_seen p false false is_low is_same = subst (IfCounted plan p []) (sym (lacks p is_low is_same)) tt

  pub one_counter_more : AreCounters (count + 1) plan of (counters ++ o ∷ []) (λ p. [])
  one_counter_more = record {
    many = let long = length_push counters o in let were = are.many in omega (arith, long, were);
    chosen = λ p. chosen_there p (nat_lt p.0 count) (nat_eq p.0 count) refl refl;
    seen = λ p. one_seen p (nat_lt p.0 count) (nat_eq p.0 count) refl refl;
  }

pub no_counters : (plan : Plan) (of : Chosen) → AreCounters 0 plan of [] (λ p. [])
no_counters plan of = record {
  many = refl;
  chosen = λ p.
      let above : nat_lt p.0 0 ≡ false = grind (arith, nat_tests) in
      ap (λ (b : Bool). b && is_chosen of p) (sym above);
  seen = λ p. tt;
}

-- ---- a counter that sees more

module _ (p : PeerNo) (es : List Entry) (before after : PeerNo → Entries) (is : (q : PeerNo) → after q ≡ added before p es q) where
  pub stays_so : (q : PeerNo) → nat_eq p.0 q.0 ≡ false → after q ≡ before q
  stays_so q apart = is q ∙ ap (λ (b : Bool). if b then reverse es ++ before q else before q) apart

  pub goes_on : (q : PeerNo) → nat_eq p.0 q.0 ≡ true → after q ≡ reverse es ++ before q
  goes_on q same = is q ∙ ap (λ (b : Bool). if b then reverse es ++ before q else before q) same

  pub is_it : (q : PeerNo) → nat_eq p.0 q.0 ≡ true → p ≡ q
  is_it q same =
      let number : p.0 ≡ q.0 = grind (arith, nat_tests) in
      ap peer_no number

  module _ (plan : Plan) (of : Chosen) (count : ℕ) (counters : List (Option PeerCounter)) (are : AreCounters count plan of counters before) where
    -- no counter is there
    pub counters_same : slice_get counters p.0 ≡ None → AreCounters count plan of counters after
    counters_same none = record {
      many = are.many;
      chosen = are.chosen;
      seen = λ q. by q (nat_eq p.0 q.0) refl;
    }
      where
        by : (q : PeerNo) (b : Bool) → nat_eq p.0 q.0 ≡ b → IfCounted plan q (after q) (counter_of counters q)
        by q true same =
            subst (λ (r : PeerNo). IfCounted plan r (after r) (counter_of counters r)) (is_it q same) (subst (IfCounted plan p (after p)) (sym (ap counter_where none)) tt)
        by q false apart = subst (λ (L : Entries). IfCounted plan q L (counter_of counters q)) (sym (stays_so q apart)) (are.seen q)

    module _ (o new : Option PeerCounter) (here : slice_get counters p.0 ≡ Some o) where
      kept : (q : PeerNo) → nat_eq p.0 q.0 ≡ false → counter_of (set counters p.0 new) q ≡ counter_of counters q
      kept q apart = ap counter_where (get_other counters p.0 q.0 new (λ e. grind (arith, nat_tests)))

      put : counter_of (set counters p.0 new) p ≡ new
      put = ap counter_where (get_set counters p.0 new (slice_get_within counters p.0 o here))

      pub counters_more : is_some new ≡ is_some o → (IfCounted plan p (before p) o → IfCounted plan p (reverse es ++ before p) new) → AreCounters count plan of (set counters p.0 new) after
      counters_more as_before sees = record {
        many = length-set counters p.0 new ∙ are.many;
        chosen = λ q. chosen_at q (nat_eq p.0 q.0) refl;
        seen = λ q. seen_at q (nat_eq p.0 q.0) refl;
      }
        where
          chosen_at : (q : PeerNo) (b : Bool) → nat_eq p.0 q.0 ≡ b → is_some (counter_of (set counters p.0 new) q) ≡ (nat_lt q.0 count && is_chosen of q)
          chosen_at q true same =
              subst (λ (r : PeerNo). is_some (counter_of (set counters p.0 new) r) ≡ (nat_lt r.0 count && is_chosen of r)) (is_it q same)
              (ap is_some put ∙ as_before ∙ ap (λ found. is_some (counter_where found)) (sym here) ∙ are.chosen p)
          chosen_at q false apart = ap is_some (kept q apart) ∙ are.chosen q

          seen_at : (q : PeerNo) (b : Bool) → nat_eq p.0 q.0 ≡ b → IfCounted plan q (after q) (counter_of (set counters p.0 new) q)
          seen_at q true same =
              let own : nat_eq p.0 p.0 ≡ true = grind (arith, nat_tests) in
              subst (λ (r : PeerNo). IfCounted plan r (after r) (counter_of (set counters p.0 new) r)) (is_it q same)
              (subst (IfCounted plan p (after p)) (sym put)
              (subst (λ (L : Entries). IfCounted plan p L new) (sym (goes_on p own))
              (sees (subst (IfCounted plan p (before p)) (ap counter_where here) (are.seen p)))))
          seen_at q false apart =
              subst (IfCounted plan q (after q)) (sym (kept q apart))
              (subst (λ (L : Entries). IfCounted plan q L (counter_of counters q)) (sym (stays_so q apart)) (are.seen q))
