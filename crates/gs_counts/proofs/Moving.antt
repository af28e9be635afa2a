-- Lists whose last two parts change places.
use Rattle.std.proofs.Common.{◌≡◌, ◌<◌, ◌≤◌, ◌+◌, ℕ, zero, suc, nat_eq, nat_lt, Bool, true, false, if◌then◌else◌, List, [], ◌∷◌, ◌++◌, filter, map, refl, sym, ap, ap₂, subst, ◌∙◌, arith, append-nil, append_assoc}
use Rattle.std.specs.Prelude.{◌&&◌}
use Rattle.std.specs.List.{flat_map, range_with_len}
use Rattle.std.proofs.lemmas.Bool.Decides.{nat_tests}
use Rattle.gs_base.specs.declared.names.PeerNo.{PeerNo}
use Rattle.gs_seats.specs.Rounds.{peer_no}

-- what holds of a list holds of it with its last two parts the other way round
abbrev pub IsMovable : {A : Type 0} → (List A → Type 0) → Type 0
IsMovable {A} P = (a b c : List A) → P (a ++ (b ++ c)) → P (a ++ (c ++ b))

into : {A : Type 0} (a x y z : List A) → a ++ ((x ++ y) ++ z) ≡ (a ++ x) ++ (y ++ z)
into a x y z = ap (λ l. a ++ l) (append_assoc x y z) ∙ sym (append_assoc a x (y ++ z))

module _ {B : Type 0} (P : List B → Type 0) (moves : IsMovable P) where
  -- two lists for each element: all of the first ones before all of the second ones, or element by element
  pub side_by_side : {A : Type 0} (f g : A → List B) (first : List B) (xs : List A) → P (first ++ (flat_map f xs ++ flat_map g xs)) → P (first ++ flat_map (λ x. f x ++ g x) xs)
  side_by_side f g first [] has = has
  side_by_side f g first (x ∷ xs) has =
      let F = flat_map f xs in
      let G = flat_map g xs in
      let apart = moves (first ++ f x) F (g x ++ G) (subst P (into first (f x) F (g x ++ G)) has) in
      let here = moves ((first ++ f x) ++ g x) G F (subst P (into (first ++ f x) (g x) G F) apart) in
      let both = side_by_side f g (first ++ (f x ++ g x)) xs (subst P (ap (λ l. l ++ (F ++ G)) (append_assoc first (f x) (g x))) here) in
      subst P (append_assoc first (f x ++ g x) (flat_map (λ y. f y ++ g y) xs)) both

  -- the list of one peer grows
  module _ (chosen : PeerNo → Bool) (p : PeerNo) (xs : List B) (f g : PeerNo → List B) (others : (q : PeerNo) → nat_eq p.0 q.0 ≡ false → g q ≡ f q) (own : (q : PeerNo) → nat_eq p.0 q.0 ≡ true → g q ≡ f q ++ xs) where
    abbrev peers : ℕ → ℕ → List PeerNo
    peers a n = filter chosen (map peer_no (range_with_len a n))

    one : (a n : ℕ) (b : Bool) → chosen (peer_no a) ≡ b → (b ≡ true → nat_eq p.0 a ≡ false) → flat_map g (peers (a + 1) n) ≡ flat_map f (peers (a + 1) n)
        → flat_map g (if b then peer_no a ∷ peers (a + 1) n else peers (a + 1) n) ≡ flat_map f (if b then peer_no a ∷ peers (a + 1) n else peers (a + 1) n)
    one a n true is far rest = ap₂ (λ (ys zs : List B). ys ++ zs) (others (peer_no a) (far refl)) rest
    one a n false is far rest = rest

    untouched : (a n : ℕ) → ((k : ℕ) → a ≤ k → k < a + n → chosen (peer_no k) ≡ true → nat_eq p.0 k ≡ false) → flat_map g (peers a n) ≡ flat_map f (peers a n)
    untouched a zero far = refl
    untouched a (suc n) far =
        one a n (chosen (peer_no a)) refl (λ is. far a (omega arith) (omega arith) is)
        (untouched (a + 1) n (λ k low high is. far k (omega (arith, low)) (omega (arith, high)) is))

    past : (a n : ℕ) → p.0 < a → flat_map g (peers a n) ≡ flat_map f (peers a n)
    past a n below = untouched a n (λ k low high is. grind (arith, nat_tests))

    begun : (h : PeerNo → List B) (a n : ℕ) → chosen (peer_no a) ≡ true → flat_map h (peers a (suc n)) ≡ h (peer_no a) ++ flat_map h (peers (a + 1) n)
    begun h a n is = ap (λ (b : Bool). flat_map h (if b then peer_no a ∷ peers (a + 1) n else peers (a + 1) n)) is

    skipped : (h : PeerNo → List B) (a n : ℕ) → chosen (peer_no a) ≡ false → flat_map h (peers a (suc n)) ≡ flat_map h (peers (a + 1) n)
    skipped h a n is = ap (λ (b : Bool). flat_map h (if b then peer_no a ∷ peers (a + 1) n else peers (a + 1) n)) is

    -- it is this one
    here : (first : List B) (a n : ℕ) → nat_eq p.0 a ≡ true → chosen (peer_no a) ≡ true → P (first ++ (flat_map f (peers a (suc n)) ++ xs)) → P (first ++ flat_map g (peers a (suc n)))
    here first a n same is has =
        let q = peer_no a in
        let F = flat_map f (peers (a + 1) n) in
        let below : p.0 < a + 1 = grind (arith, nat_tests) in
        let opened = subst P (ap (λ ys. first ++ (ys ++ xs)) (begun f a n is) ∙ into first (f q) F xs) has in
        let moved = moves (first ++ f q) F xs opened in
        subst P
        (sym (into first (f q) xs F)
        ∙ ap₂ (λ (ys zs : List B). first ++ (ys ++ zs)) (sym (own q same)) (sym (past (a + 1) n below))
        ∙ ap (λ ys. first ++ ys) (sym (begun g a n is)))
        moved

    -- it comes after this one
    onward : (first : List B) (a n : ℕ) → nat_eq p.0 a ≡ false → ((before : List B) → P (before ++ (flat_map f (peers (a + 1) n) ++ xs)) → P (before ++ flat_map g (peers (a + 1) n))) → (b : Bool) → chosen (peer_no a) ≡ b → P (first ++ (flat_map f (peers a (suc n)) ++ xs)) → P (first ++ flat_map g (peers a (suc n)))
    onward first a n apart rest true is has =
        let q = peer_no a in
        let F = flat_map f (peers (a + 1) n) in
        subst P
        (append_assoc first (f q) (flat_map g (peers (a + 1) n))
        ∙ ap (λ ys. first ++ (ys ++ flat_map g (peers (a + 1) n))) (sym (others q apart))
        ∙ ap (λ ys. first ++ ys) (sym (begun g a n is)))
        (rest (first ++ f q) (subst P (ap (λ ys. first ++ (ys ++ xs)) (begun f a n is) ∙ into first (f q) F xs) has))
    onward first a n apart rest false is has =
        subst P (ap (λ ys. first ++ ys) (sym (skipped g a n is))) (rest first (subst P (ap (λ ys. first ++ (ys ++ xs)) (skipped f a n is)) has))

    either : (first : List B) (a n : ℕ) (b : Bool) → nat_eq p.0 a ≡ b → a ≤ p.0 → chosen p ≡ true → (a + 1 ≤ p.0 → (before : List B) → P (before ++ (flat_map f (peers (a + 1) n) ++ xs)) → P (before ++ flat_map g (peers (a + 1) n))) → P (first ++ (flat_map f (peers a (suc n)) ++ xs)) → P (first ++ flat_map g (peers a (suc n)))
    either first a n true same low is rest has =
        let number : p.0 ≡ a = grind (arith, nat_tests) in
        here first a n same (subst (λ (k : ℕ). chosen (peer_no k) ≡ true) number is) has
    either first a n false apart low is rest has =
        onward first a n apart (rest (grind (arith, nat_tests))) (chosen (peer_no a)) refl has

    pub grown : (first : List B) (a n : ℕ) → a ≤ p.0 → p.0 < a + n → chosen p ≡ true → P (first ++ (flat_map f (peers a n) ++ xs)) → P (first ++ flat_map g (peers a n))
    grown first a zero low high is has = absurd (omega (arith, low, high))
    grown first a (suc n) low high is has =
        either first a n (nat_eq p.0 a) refl low is (λ next before. grown before (a + 1) n next (omega (arith, high)) is) has

    by_choice : (count : ℕ) (below picked : Bool) → nat_lt p.0 count ≡ below → chosen p ≡ picked → P (flat_map f (peers 0 count) ++ (if below && picked then xs else [])) → P (flat_map g (peers 0 count))
    by_choice count true true low is has = grown [] 0 count (omega arith) (grind (arith, nat_tests)) is has
    by_choice count true false low is has =
        subst P
        (append-nil (flat_map f (peers 0 count)) ∙ sym (untouched 0 count (λ k from to other. grind (arith, nat_tests))))
        has
    by_choice count false picked low is has =
        subst P
        (append-nil (flat_map f (peers 0 count)) ∙ sym (untouched 0 count (λ k from to other. grind (arith, nat_tests))))
        has

    pub all_grown : (count : ℕ) → P (flat_map f (peers 0 count) ++ (if nat_lt p.0 count && chosen p then xs else [])) → P (flat_map g (peers 0 count))
    all_grown count has = by_choice count (nat_lt p.0 count) (chosen p) refl refl has
