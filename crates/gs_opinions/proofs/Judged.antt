-- Opinions of the chosen peers of a plan, after one of them did more.
use Rattle.std.proofs.Common.{◌≡◌, ◌<◌, ◌≤◌, ◌+◌, ℕ, zero, suc, Bool, true, false, if◌then◌else◌, nat_eq, List, [], ◌∷◌, ◌++◌, append_assoc, filter, flat_map, length, map, reverse, refl, sym, ap, ap₂, subst, ◌∙◌, arith}
use Rattle.std.specs.List.{range_with_len}
use Rattle.std.proofs.lemmas.Bool.Decides.{nat_tests}
use Rattle.gs_base.specs.declared.names.Millis.{Millis}
use Rattle.gs_base.specs.declared.names.PeerNo.{PeerNo}
use Rattle.gs_base.specs.Names.{same_peer}
use Rattle.gs_plan.specs.declared.plan.Plan.{Plan}
use Rattle.gs_rules.specs.declared.trace.Entry.{Entry}
use Rattle.gs_rules.specs.Tables.{Entries}
use Rattle.gs_report.specs.Seen.{added}
use Rattle.gs_reach.specs.declared.chosen.Chosen.{Chosen}
use Rattle.gs_reach.specs.Chosen.{is_chosen}
use Rattle.gs_seats.specs.Rounds.{neighbours, peer_no}
use Rattle.gs_opinions.specs.declared.opinion.Opinion.{Opinion}
use Rattle.gs_opinions.specs.declared.tables.Tables.{Tables}
use Rattle.gs_opinions.specs.Judging.{chosen_opinions, opinions_in}
use Rattle.gs_opinions.specs.Noting.{Shows}
use Rattle.gs_opinions.specs.Opinions.{entry_opinions, is_after, is_before, later_opinions, look_at, opinion_of, opinions_after, opinions_at, opinions_before, trace_opinions}
use Rattle.gs_opinions.proofs.Least.{both}
use Rattle.gs_opinions.proofs.Moved.{AreBy, AreByOthers, shows_moved}
use Rattle.gs_opinions.proofs.Places.{above, apart}
use Rattle.gs_opinions.proofs.Reading.{later_is}

-- ---- who gives opinions

itself : (p : PeerNo) → same_peer p p ≡ true
itself p = grind (arith, nat_tests)

module _ (plan : Plan) (p : PeerNo) where
  abbrev Own : List Opinion → Type 0
  Own = AreBy p

  of_all : (L : Entries) (at : Millis) (qs : List PeerNo) → Own (map (opinion_of plan p L at) qs)
  of_all L at [] = tt
  of_all L at (q ∷ qs) = (itself p, of_all L at qs)

  own_if : (b : Bool) (os : List Opinion) → Own os → Own (if b then os else [])
  own_if true os h = h
  own_if false os h = tt

  own_at : (e : Entry) (L : Entries) → Own (entry_opinions plan p e L)
  own_at e L =
      both (λ (o : Opinion). same_peer o.by p ≡ true) (opinions_before plan p e L) (opinions_after plan p e L)
      (own_if (is_before (look_at e.event)) (opinions_at plan p L e.at) (of_all L e.at (neighbours plan p)))
      (own_if (is_after (look_at e.event)) (opinions_at plan p (e ∷ L) e.at) (of_all (e ∷ L) e.at (neighbours plan p)))

  own_in : (L : Entries) → Own (trace_opinions plan p L)
  own_in [] = tt
  own_in (e ∷ L) = both (λ (o : Opinion). same_peer o.by p ≡ true) (trace_opinions plan p L) (entry_opinions plan p e L) (own_in L) (own_at e L)

  own_later : (es : List Entry) (L : Entries) → Own (later_opinions plan p es L)
  own_later [] L = tt
  own_later (e ∷ es) L = both (λ (o : Opinion). same_peer o.by p ≡ true) (entry_opinions plan p e L) (later_opinions plan p es (e ∷ L)) (own_at e L) (own_later es (e ∷ L))

-- ---- peer by peer

-- the opinions of others
others_own : (j m : ℕ) → nat_eq j m ≡ false → (os : List Opinion) → AreBy (peer_no m) os → AreByOthers (peer_no j) os
others_own j m differs [] h = tt
others_own j m differs (o ∷ os) h = (other o.by.0 h.0, others_own j m differs os h.1)
  where
    other : (b : ℕ) → nat_eq b m ≡ true → nat_eq b j ≡ false
    other b is = grind (arith, nat_tests)

-- The opinions of peers by number, where one of them has more.
module _ (f g : ℕ → List Opinion) (more : List Opinion) (j : ℕ) (others : (m : ℕ) → nat_eq j m ≡ false → g m ≡ f m) (here : g j ≡ f j ++ more) (own : (m : ℕ) → AreBy (peer_no m) (f m)) where
  pub record Parts (a n : ℕ) : Type 0 where
    pub first : List Opinion
    pub rest : List Opinion
    pub before : flat_map f (range_with_len a n) ≡ first ++ rest
    pub after : flat_map g (range_with_len a n) ≡ (first ++ more) ++ rest
    pub by_others : AreByOthers (peer_no j) rest

  same_beyond : (a n : ℕ) → j < a → flat_map g (range_with_len a n) ≡ flat_map f (range_with_len a n)
  same_beyond a zero past = refl
  same_beyond a (suc n) past =
      ap₂ (λ (xs ys : List Opinion). xs ++ ys) (others a (apart j a past)) (same_beyond (a + 1) n (omega (arith, past)))

  others_beyond : (a n : ℕ) → j < a → AreByOthers (peer_no j) (flat_map f (range_with_len a n))
  others_beyond a zero past = tt
  others_beyond a (suc n) past =
      both (λ (o : Opinion). same_peer o.by (peer_no j) ≡ false) (f a) (flat_map f (range_with_len (a + 1) n))
      (others_own j a (apart j a past) (f a) (own a))
      (others_beyond (a + 1) n (omega (arith, past)))

  parts_from : (a n k : ℕ) → a + k ≡ j → k < n → Parts a n
  parts_from a zero k is low = absurd (omega (arith, low))
  parts_from a (suc n) zero is low =
      let same : j ≡ a = omega (arith, is) in
      let rest = flat_map f (range_with_len (a + 1) n) in
      record {
        first = f a;
        rest = rest;
        before = refl;
        after = ap₂ (λ (xs ys : List Opinion). xs ++ ys) (subst (λ (i : ℕ). g i ≡ f i ++ more) same here) (same_beyond (a + 1) n (omega (arith, is)));
        by_others = others_beyond (a + 1) n (omega (arith, is));
      }
  parts_from a (suc n) (suc k) is low =
      let later = parts_from (a + 1) n k (omega (arith, is)) (omega (arith, low)) in
      record {
        first = f a ++ later.first;
        rest = later.rest;
        before = ap (λ (xs : List Opinion). f a ++ xs) later.before ∙ sym (append_assoc (f a) later.first later.rest);
        after = ap₂ (λ (xs ys : List Opinion). xs ++ ys) (others a (above j a (omega (arith, is)))) later.after
            ∙ sym (append_assoc (f a) (later.first ++ more) later.rest)
            ∙ ap (λ (xs : List Opinion). xs ++ later.rest) (sym (append_assoc (f a) later.first more));
        by_others = later.by_others;
      }

  same_below : (a n : ℕ) → a + n ≤ j → flat_map g (range_with_len a n) ≡ flat_map f (range_with_len a n)
  same_below a zero past = refl
  same_below a (suc n) past =
      ap₂ (λ (xs ys : List Opinion). xs ++ ys) (others a (above j a (omega (arith, past)))) (same_below (a + 1) n (omega (arith, past)))

-- ---- the chosen peers

module _ (plan : Plan) (of : Chosen) where
  abbrev own_of : (PeerNo → Entries) → ℕ → List Opinion
  own_of traces m = if is_chosen of (peer_no m) then trace_opinions plan (peer_no m) (traces (peer_no m)) else []

  filtered : (traces : PeerNo → Entries) (a n : ℕ) → flat_map (λ p. trace_opinions plan p (traces p)) (filter (is_chosen of) (map peer_no (range_with_len a n))) ≡ flat_map (own_of traces) (range_with_len a n)
  filtered traces a zero = refl
  filtered traces a (suc n) = by (is_chosen of (peer_no a)) (filtered traces (a + 1) n)
    where
      by : (b : Bool)
          → flat_map (λ p. trace_opinions plan p (traces p)) (filter (is_chosen of) (map peer_no (range_with_len (a + 1) n))) ≡ flat_map (own_of traces) (range_with_len (a + 1) n)
          → flat_map (λ p. trace_opinions plan p (traces p)) (if b then peer_no a ∷ filter (is_chosen of) (map peer_no (range_with_len (a + 1) n)) else filter (is_chosen of) (map peer_no (range_with_len (a + 1) n))) ≡ (if b then trace_opinions plan (peer_no a) (traces (peer_no a)) else []) ++ flat_map (own_of traces) (range_with_len (a + 1) n)
      by true later = ap (λ (os : List Opinion). trace_opinions plan (peer_no a) (traces (peer_no a)) ++ os) later
      by false later = later

  module _ (p : PeerNo) (es : List Entry) (before after : PeerNo → Entries) (is : (q : PeerNo) → after q ≡ added before p es q) where
    abbrev more : List Opinion
    more = chosen_opinions plan of p es (before p)

    pub other_trace : (m : ℕ) → nat_eq p.0 m ≡ false → after (peer_no m) ≡ before (peer_no m)
    other_trace m differs =
        is (peer_no m) ∙ ap (λ (b : Bool). if b then reverse es ++ before (peer_no m) else before (peer_no m)) differs

    pub own_trace : after p ≡ reverse es ++ before p
    own_trace = is p ∙ ap (λ (b : Bool). if b then reverse es ++ before p else before p) (itself p)

    others : (m : ℕ) → nat_eq p.0 m ≡ false → own_of after m ≡ own_of before m
    others m differs =
        ap (λ (L : Entries). if is_chosen of (peer_no m) then trace_opinions plan (peer_no m) L else []) (other_trace m differs)

    here : own_of after p.0 ≡ own_of before p.0 ++ more
    here = ap (λ (L : Entries). if is_chosen of p then trace_opinions plan p L else []) own_trace ∙ by (is_chosen of p)
      where
        by : (b : Bool) → (if b then trace_opinions plan p (reverse es ++ before p) else []) ≡ (if b then trace_opinions plan p (before p) else []) ++ (if b then later_opinions plan p es (before p) else [])
        by true = later_is plan p es (before p)
        by false = refl

    own : (m : ℕ) → AreBy (peer_no m) (own_of before m)
    own m = own_if plan (peer_no m) (is_chosen of (peer_no m)) (trace_opinions plan (peer_no m) (before (peer_no m))) (own_in plan (peer_no m) (before (peer_no m)))

    -- a peer of the plan did more
    pub shows_after : (groups : List Chosen) (tables : Tables) → p.0 < length plan.peers → Shows plan groups tables (opinions_in plan of before ++ more) → Shows plan groups tables (opinions_in plan of after)
    shows_after groups tables low shows =
        let parts = parts_from (own_of before) (own_of after) more p.0 others here own 0 (length plan.peers) p.0 (omega arith) low in
        subst (Shows plan groups tables) (sym (filtered after 0 (length plan.peers) ∙ parts.after))
        (shows_moved p parts.first parts.rest more parts.by_others
        (own_if plan p (is_chosen of p) (later_opinions plan p es (before p)) (own_later plan p es (before p)))
        plan groups tables
        (subst (λ (os : List Opinion). Shows plan groups tables (os ++ more)) (filtered before 0 (length plan.peers) ∙ parts.before) shows))

    -- a peer that is not of the plan did more
    pub same_opinions : length plan.peers ≤ p.0 → opinions_in plan of before ≡ opinions_in plan of after
    same_opinions past =
        filtered before 0 (length plan.peers)
        ∙ sym (same_below (own_of before) (own_of after) more p.0 others here own 0 (length plan.peers) (omega (arith, past)))
        ∙ sym (filtered after 0 (length plan.peers))
