-- The texts of plain values, of what may be absent, of lists and of peers tell what they are of.
use Rattle.std.proofs.Common.{◌≡◌, ℕ, zero, suc, ◌<◌, Bool, true, false, List, [], ◌∷◌, ◌++◌, length, get_or, slice_get, drop, flat_map, map, decimal, Option, Some, None, AllPairs, refl, sym, ap, ◌∙◌, subst, append_assoc, map-id, arith, inl, inr, eq-eqb, true≢false}
use Rattle.std.specs.List.{AllByRecursion}
use Rattle.std.specs.Prelude.{nat_eq}
use Rattle.std.specs.Cmp.Lexicographic.{pointwise}
use Rattle.std.proofs.lemmas.Bool.{cases_order}
use Rattle.gs_base.specs.declared.names.Millis.{Millis}
use Rattle.gs_base.specs.declared.names.MsgId.{MsgId}
use Rattle.gs_base.specs.declared.names.PeerNo.{PeerNo}
use Rattle.gs_base.specs.declared.names.Topic.{Topic}
use Rattle.gs_plan.specs.Plans.{have_one_name}
use Rattle.gs_plan.specs.declared.plan.PlannedPeer.{PlannedPeer}
use Rattle.gs_trace.specs.Stored.{AreStoredBytes, IfThere, IsStoredId, IsStoredMoment, IsStoredNumber, IsStoredPeer, IsStoredTopic}
use Rattle.gs_trace.specs.Texts.{after_comma, hex_text, id_text, items_text, list_text, moment_text, name_or_number, optional_text, peer_text, topic_text, truth_text}
use Rattle.gs_trace.proofs.Prefixes.{Anything, NoDigit, TellsAll, Avoids, clashes, front, made, of_part, tell_items}
use Rattle.gs_trace.proofs.Numbers.{decimal_avoids, tell_decimal}
use Rattle.gs_trace.proofs.Quotes.{tell_hex, tell_quoted}

-- ---- plain values

abbrev pub AnyTruth : Bool → Type 0
AnyTruth b = Unit {0}

pub tell_truth : TellsAll Anything AnyTruth truth_text
tell_truth = record { tell = by }
  where
    by : (x y : Bool) (s t : List ℕ) → Anything s → Anything t → AnyTruth x → AnyTruth y → truth_text x ++ s ≡ truth_text y ++ t → (x ≡ y) × (s ≡ t)
    by true true s t fs ft hx hy e = (refl, ap (drop 4) e)
    by true false s t fs ft hx hy e = absurd (clashes _ _ refl e)
    by false true s t fs ft hx hy e = absurd (clashes _ _ refl e)
    by false false s t fs ft hx hy e = (refl, ap (drop 5) e)

pub truth_is_not_null : Avoids 110 AnyTruth truth_text
truth_is_not_null true s t h e = clashes _ _ refl e
truth_is_not_null false s t h e = clashes _ _ refl e

pub tell_topic : TellsAll Anything IsStoredTopic topic_text
tell_topic = made (of_part {Fits = IsStoredTopic} tell_quoted (λ (t : Topic). t.0) (λ t h. h)) (λ bytes. record { 0 = bytes })

pub tell_id : TellsAll Anything IsStoredId id_text
tell_id = made (of_part {Fits = IsStoredId} tell_hex (λ (id : MsgId). id.0) (λ id h. h)) (λ bytes. record { 0 = bytes })

pub tell_number : TellsAll NoDigit IsStoredNumber decimal
tell_number = of_part {Fits = IsStoredNumber} tell_decimal (λ (n : ℕ). n) (λ n h. omega arith)

pub tell_moment : TellsAll NoDigit IsStoredMoment moment_text
tell_moment = made (of_part {Fits = IsStoredMoment} tell_number (λ (at : Millis). at.0) (λ at h. h)) (λ n. record { 0 = n })

-- ---- what may be absent

pub tell_optional : {A : Type 0} {After : List ℕ → Type 0} {Fits : A → Type 0} {f : A → List ℕ}
    → TellsAll After Fits f → Avoids 110 Fits f → TellsAll After (IfThere Fits) (optional_text f)
tell_optional {A = A} {After = After} {Fits = Fits} {f = f} told avoids = record { tell = by }
  where
    by : (x y : Option A) (s t : List ℕ) → After s → After t → IfThere Fits x → IfThere Fits y → optional_text f x ++ s ≡ optional_text f y ++ t → (x ≡ y) × (s ≡ t)
    by None None s t fs ft hx hy e = (refl, ap (drop 4) e)
    by None (Some y) s t fs ft hx hy e = absurd (avoids y t _ hy (sym e))
    by (Some x) None s t fs ft hx hy e = absurd (avoids x s _ hx e)
    by (Some x) (Some y) s t fs ft hx hy e =
        let both = told.tell x y s t fs ft hx hy e in
        (ap Some both.0, both.1)

pub tell_topic_or_null : TellsAll Anything (IfThere IsStoredTopic) (optional_text topic_text)
tell_topic_or_null = tell_optional tell_topic (λ t s u h e. clashes _ _ refl e)

pub tell_hex_or_null : TellsAll Anything (IfThere AreStoredBytes) (optional_text hex_text)
tell_hex_or_null = tell_optional tell_hex (λ bytes s u h e. clashes _ _ refl e)

-- ---- lists

-- the text goes on with the end of a list
abbrev IsBracket : List ℕ → Type 0
IsBracket [] = ⊥
IsBracket (c ∷ s) = c ≡ 93

bracket_no_digit : (s : List ℕ) → IsBracket s → NoDigit s
bracket_no_digit [] h = absurd h
bracket_no_digit (c ∷ s) h = rw h refl

comma_no_bracket : {A : Type 0} (Fits : A → Type 0) (f : A → List ℕ) (x : A) (s t : List ℕ) → Fits x → IsBracket t → after_comma f x ++ s ≡ t → ⊥
comma_no_bracket Fits f x s [] hx h e = h
comma_no_bracket Fits f x s (c ∷ t) hx h e =
    let comma : 44 ≡ c = cc (e) in
    let bracket : c ≡ 93 = h in
    omega arith

pub tell_list : {A : Type 0} {Fits : A → Type 0} {f : A → List ℕ}
    → TellsAll NoDigit Fits f → Avoids 93 Fits f → TellsAll Anything (AllByRecursion Fits) (list_text f)
tell_list {A = A} {Fits = Fits} {f = f} told avoids = record {
  tell = λ xs ys s t fs ft hx hy e.
      let inner : items_text f xs ++ 93 ∷ s ≡ items_text f ys ++ 93 ∷ t =
      sym (append_assoc (items_text f xs) (93 ∷ []) s) ∙ ap (drop 1) e ∙ append_assoc (items_text f ys) (93 ∷ []) t in
      by xs ys s t hx hy inner;
}
  where
    no_digit : (xs : List A) (s : List ℕ) → NoDigit (flat_map (after_comma f) xs ++ 93 ∷ s)
    no_digit [] s = refl
    no_digit (x ∷ xs) s = refl

    by : (xs ys : List A) (s t : List ℕ) → AllByRecursion Fits xs → AllByRecursion Fits ys → items_text f xs ++ 93 ∷ s ≡ items_text f ys ++ 93 ∷ t → (xs ≡ ys) × (s ≡ t)
    by [] [] s t hx hy e = (refl, ap (drop 1) e)
    by [] (y ∷ ys) s t hx hy e =
        absurd (avoids y (flat_map (after_comma f) ys ++ 93 ∷ t) s hy.0 (sym (e ∙ append_assoc (f y) (flat_map (after_comma f) ys) (93 ∷ t))))
    by (x ∷ xs) [] s t hx hy e =
        absurd (avoids x (flat_map (after_comma f) xs ++ 93 ∷ s) t hx.0 (sym (append_assoc (f x) (flat_map (after_comma f) xs) (93 ∷ s)) ∙ e))
    by (x ∷ xs) (y ∷ ys) s t hx hy e =
        let one = told.tell x y (flat_map (after_comma f) xs ++ 93 ∷ s) (flat_map (after_comma f) ys ++ 93 ∷ t) (no_digit xs s) (no_digit ys t) hx.0 hy.0 (sym (append_assoc (f x) (flat_map (after_comma f) xs) (93 ∷ s)) ∙ e ∙ append_assoc (f y) (flat_map (after_comma f) ys) (93 ∷ t)) in
        let more = tell_items NoDigit IsBracket Fits (after_comma f) (λ z. z) (front (44 ∷ []) told) (comma_no_bracket Fits f) bracket_no_digit (λ z u h. refl) xs ys (93 ∷ s) (93 ∷ t) hx.1 hy.1 refl refl one.1 in
        let same : xs ≡ ys = sym (map-id xs) ∙ more.0 ∙ map-id ys in
        (λ i. one.0 i ∷ same i, ap (drop 1) more.1)

-- ---- peers

-- no name stands at two places
abbrev pub Differ : List (List ℕ) → Type 0
Differ names = (i j : ℕ) (name : List ℕ) → slice_get names i ≡ Some name → slice_get names j ≡ Some name → i ≡ j

pub stored_at : {A : Type 0} (P : A → Type 0) (xs : List A) (i : ℕ) (x : A) → AllByRecursion P xs → slice_get xs i ≡ Some x → P x
stored_at P [] i x h e = absurd cc
stored_at P (y ∷ xs) zero x h e =
    let same : y ≡ x = cc in
    subst P same h.0
stored_at P (y ∷ xs) (suc i) x h e = stored_at P xs i x h.1 e

module _ (names : List (List ℕ)) (stored : AllByRecursion AreStoredBytes names) (differ : Differ names) where
  by_option : (q r : PeerNo) (a b : Option (List ℕ)) (s t : List ℕ) → slice_get names q.0 ≡ a → slice_get names r.0 ≡ b → NoDigit s → NoDigit t → IsStoredPeer q → IsStoredPeer r → name_or_number a q.0 ++ s ≡ name_or_number b r.0 ++ t → (q.0 ≡ r.0) × (s ≡ t)
  by_option q r None None s t ga gb ns nt hq hr e = tell_number.tell q.0 r.0 s t ns nt (omega arith) (omega arith) e
  by_option q r None (Some m) s t ga gb ns nt hq hr e = absurd (decimal_avoids 34 refl q.0 s _ (omega arith) e)
  by_option q r (Some n) None s t ga gb ns nt hq hr e = absurd (decimal_avoids 34 refl r.0 t _ (omega arith) (sym e))
  by_option q r (Some n) (Some m) s t ga gb ns nt hq hr e =
      let both = tell_quoted.tell n m s t tt tt (stored_at AreStoredBytes names q.0 n stored ga) (stored_at AreStoredBytes names r.0 m stored gb) e in
      (differ q.0 r.0 m (ga ∙ ap Some both.0) gb, both.1)

  pub tell_peer : TellsAll NoDigit IsStoredPeer (peer_text names)
  tell_peer = record {
    tell = λ q r s t ns nt hq hr e.
        let both = by_option q r (slice_get names q.0) (slice_get names r.0) s t refl refl ns nt hq hr e in
        (ap (λ (n : ℕ). record { 0 = n }) both.0, both.1);
  }

-- ---- names that differ pairwise

-- a place that has a peer
get_some : {A : Type 0} (xs : List A) (i : ℕ) (x d : A) → slice_get xs i ≡ Some x → (i < length xs) × (get_or xs i d ≡ x)
get_some [] i x d e = absurd cc
get_some (y ∷ xs) zero x d e = (omega arith, cc)
get_some (y ∷ xs) (suc i) x d e =
    let more = get_some xs i x d e in
    (let l = more.0 in omega arith, more.1)

named : (peers : List PlannedPeer) (i : ℕ) (name : List ℕ) → slice_get (map (λ (planned : PlannedPeer). planned.name) peers) i ≡ Some name → (x : PlannedPeer) × (slice_get peers i ≡ Some x) × (x.name ≡ name)
named [] i name e = absurd cc
named (x ∷ peers) zero name e = (x, refl, cc)
named (x ∷ peers) (suc i) name e = named peers i name e

same_bytes : (u : List ℕ) → pointwise nat_eq u u ≡ true
same_bytes [] = refl
same_bytes (c ∷ u) = rw (eq-eqb c c refl) (same_bytes u)

later_differs : (peers : List PlannedPeer) → AllPairs (λ x y. have_one_name x y ≡ false) peers → (i j : ℕ) (name : List ℕ) → i < j → slice_get (map (λ (planned : PlannedPeer). planned.name) peers) i ≡ Some name → slice_get (map (λ (planned : PlannedPeer). planned.name) peers) j ≡ Some name → ⊥
later_differs peers h i j name lt a b =
    let x = named peers i name a in
    let y = named peers j name b in
    let gx = get_some peers i x.0 x.0 x.1 in
    let gy = get_some peers j y.0 x.0 y.1 in
    let other : have_one_name (get_or peers i x.0) (get_or peers j x.0) ≡ false = h i j x.0 lt gy.0 in
    let names : pointwise nat_eq x.0.name y.0.name ≡ false = rw (gx.1, gy.1) at other in
    let same : pointwise nat_eq name name ≡ false = rw (x.2, y.2) at names in
    true≢false (sym (same_bytes name) ∙ same)

pub names_differ : (peers : List PlannedPeer) → AllPairs (λ x y. have_one_name x y ≡ false) peers → Differ (map (λ (planned : PlannedPeer). planned.name) peers)
names_differ peers h i j name a b = elim (cases_order i j) [
  | inl same ↦ same
  | inr apart ↦ elim apart [
    | inl lt ↦ absurd (later_differs peers h i j name lt a b)
    | inr gt ↦ absurd (later_differs peers h j i name gt b a)
  ]
]
