-- What the readers of traces see of a round, and the text of the rounds.
use Rattle.std.proofs.Common.{◌≡◌, ◌≤◌, ℕ, zero, suc, ◌+◌, ◌<◌, Bool, false, List, [], ◌∷◌, ◌++◌, drop, take, length, map, get_or, nat_eq, ne_eqb, set, refl, sym, ap, ◌∙◌, arith, add-one, append-nil, append_assoc}
use Rattle.std.specs.List.{AllByRecursion, flat_map, range_with_len}
use Rattle.std.proofs.lemmas.Grind.{flat_map-append}
use Rattle.std.proofs.lemmas.List.{take_more}
use Rattle.gs_base.specs.declared.names.PeerNo.{PeerNo}
use Rattle.gs_plan.specs.declared.plan.Plan.{Plan}
use Rattle.gs_router.specs.declared.follower.Followed.{Followed}
use Rattle.gs_router.specs.declared.follower.Follower.{Follower}
use Rattle.gs_report.specs.declared.finished.Finished.{Finished}
use Rattle.gs_trace.specs.Lines.{Seen, after_end, after_ends, in_round, seen_by}
use Rattle.gs_trace.specs.Starts.{Sees, StandAt, StandsAt, after_round, entry_of, left_in, of_round}
use Rattle.gs_trace.proofs.Writing.{parts}

-- ---- one reader

-- the last of some ends may be taken last
pub after_more : (r : ℕ) (xs : List Seen) → after_end (after_ends r xs) ≡ after_ends (suc r) xs
after_more zero xs = refl
after_more (suc r) xs = after_more r (after_end xs)

module _ {plan : Plan} {r : ℕ} {x : PeerNo × Finished} {f f' : Follower} {list : List Followed} (stands : StandsAt plan r x f) (low : r ≤ plan.rounds) (sees : Sees (nat_eq r plan.rounds) stands.view list f') where
  -- what was seen are the entries of the round
  pub taken_is : map entry_of list ≡ in_round plan.rounds r (seen_by plan x)
  taken_is = sees.taken ∙ ap (of_round (nat_eq r plan.rounds)) (stands.left low)

  -- and the reader stands at the beginning of the next one
  pub stands_next : StandsAt plan (suc r) x f'
  stands_next = record {
    view = sees.next;
    follows = sees.follows;
    peer = sees.peer ∙ stands.peer;
    left = λ more.
        let apart : nat_eq r plan.rounds ≡ false = ne_eqb r plan.rounds (λ e. omega (arith, more, e)) in
        sees.left
        ∙ ap (λ (is_last : Bool). after_round is_last (left_in stands.view)) apart
        ∙ ap after_end (stands.left low)
        ∙ after_more r (seen_by plan x);
  }

-- ---- the readers of all peers

pub all_at : {A : Type 0} (P : A → Type 0) (xs : List A) (i : ℕ) (d : A) → AllByRecursion P xs → i < length xs → P (get_or xs i d)
all_at P [] i d h low = absurd (omega (arith, low))
all_at P (x ∷ xs) zero d h low = h.0
all_at P (x ∷ xs) (suc i) d h low = all_at P xs i d h.1 (omega (arith, low))

module _ (plan : Plan) (r : ℕ) where
  -- one peer more
  pub stand_more : (xs : List (PeerNo × Finished)) (fs : List Follower) (x : PeerNo × Finished) (f : Follower) → StandAt plan r 0 xs fs → StandsAt plan r x f → StandAt plan r 0 (xs ++ x ∷ []) (fs ++ f ∷ [])
  stand_more [] [] x f h one = (one, tt)
  stand_more [] (g ∷ fs) x f h one = absurd h
  stand_more (y ∷ xs) [] x f h one = absurd h
  stand_more (y ∷ xs) (g ∷ fs) x f h one = (h.0, stand_more xs fs x f h.1 one)

  pub as_many : (n : ℕ) (xs : List (PeerNo × Finished)) (fs : List Follower) → StandAt plan r n xs fs → length fs ≡ length xs
  as_many n [] [] h = refl
  as_many n [] (f ∷ fs) h = absurd h
  as_many n (x ∷ xs) [] h = absurd h
  as_many zero (x ∷ xs) (f ∷ fs) h = ap suc (as_many zero xs fs h.1)
  as_many (suc n) (x ∷ xs) (f ∷ fs) h = ap suc (as_many n xs fs h.1)

  -- the next one that reads
  pub stand_there : (n : ℕ) (xs : List (PeerNo × Finished)) (fs : List Follower) (d : PeerNo × Finished) (e : Follower) → n < length xs → StandAt plan r n xs fs → StandsAt plan r (get_or xs n d) (get_or fs n e)
  stand_there n [] fs d e low h = absurd (omega (arith, low))
  stand_there n (x ∷ xs) [] d e low h = absurd h
  stand_there zero (x ∷ xs) (f ∷ fs) d e low h = h.0
  stand_there (suc n) (x ∷ xs) (f ∷ fs) d e low h = stand_there n xs fs d e (omega (arith, low)) h.1

  -- after it read
  pub stand_on : (n : ℕ) (xs : List (PeerNo × Finished)) (fs : List Follower) (d : PeerNo × Finished) (f : Follower) → n < length xs → StandAt plan r n xs fs → StandsAt plan (suc r) (get_or xs n d) f → StandAt plan r (suc n) xs (set fs n f)
  stand_on n [] fs d f low h one = absurd (omega (arith, low))
  stand_on n (x ∷ xs) [] d f low h one = absurd h
  stand_on zero (x ∷ xs) (g ∷ fs) d f low h one = (one, h.1)
  stand_on (suc n) (x ∷ xs) (g ∷ fs) d f low h one = (h.0, stand_on n xs fs d f (omega (arith, low)) h.1 one)

  -- after all read
  pub stand_all : (n : ℕ) (xs : List (PeerNo × Finished)) (fs : List Follower) → length xs ≤ n → StandAt plan r n xs fs → StandAt plan (suc r) 0 xs fs
  stand_all n [] [] low h = tt
  stand_all n [] (f ∷ fs) low h = absurd h
  stand_all n (x ∷ xs) [] low h = absurd h
  stand_all zero (x ∷ xs) (f ∷ fs) low h = absurd (omega (arith, low))
  stand_all (suc n) (x ∷ xs) (f ∷ fs) low h = (h.0, stand_all n xs fs (omega (arith, low)) h.1)

-- the text of one peer more
pub peer_more : {X Y : Type 0} (line : Y → List ℕ) (told : X → List Y) (xs : List X) (i : ℕ) (d : X) → i < length xs
    → flat_map line (flat_map told (take i xs)) ++ flat_map line (told (get_or xs i d)) ≡ flat_map line (flat_map told (take (i + 1) xs))
peer_more {X = X} {Y = Y} line told xs i d low =
    sym (
    ap (λ (ys : List X). flat_map line (flat_map told ys)) (take_more xs i d low)
    ∙ ap (flat_map line) (flat_map-append told (take i xs) (get_or xs i d ∷ []) ∙ ap (λ (last : List Y). flat_map told (take i xs) ++ last) (append-nil (told (get_or xs i d))))
    ∙ flat_map-append line (flat_map told (take i xs)) (told (get_or xs i d))
    )

-- ---- rounds

counted : (a n j : ℕ) → a + n ≡ j → range_with_len a (suc n) ≡ range_with_len a n ++ j ∷ []
counted a zero j is = let same : a ≡ j = omega (arith, is) in ap (λ (r : ℕ). r ∷ []) same
counted a (suc n) j is = ap (λ (rs : List ℕ). a ∷ rs) (counted (a + 1) n j (omega (arith, is)))

-- the text of the first rounds
abbrev pub text_to : {X : Type 0} → (X → List ℕ) → (ℕ → List X) → ℕ → List ℕ
text_to line told n = flat_map line (flat_map told (range_with_len 0 n))

-- and of one more
pub round_last : {X : Type 0} (line : X → List ℕ) (told : ℕ → List X) (n : ℕ) → text_to line told n ++ flat_map line (told n) ≡ text_to line told (suc n)
round_last {X = X} line told n =
    sym (
    ap (λ (rs : List ℕ). flat_map line (flat_map told rs)) (counted 0 n n (omega arith))
    ∙ ap (flat_map line) (flat_map-append told (range_with_len 0 n) (n ∷ []) ∙ ap (λ (last : List X). flat_map told (range_with_len 0 n) ++ last) (append-nil (told n)))
    ∙ flat_map-append line (flat_map told (range_with_len 0 n)) (told n)
    )

pub round_more : {X : Type 0} (line : X → List ℕ) (told : ℕ → List X) (n : ℕ) → text_to line told n ++ flat_map line (told n) ≡ text_to line told (n + 1)
round_more line told n = round_last line told n ∙ ap (text_to line told) (sym (add-one n))

-- the text of some rounds is a front of that of more rounds
pub rounds_front : {X : Type 0} (line : X → List ℕ) (told : ℕ → List X) (r k n : ℕ) → r + k ≡ n → (rest : List ℕ) × (text_to line told n ≡ text_to line told r ++ rest)
rounds_front line told r zero n is =
    let same : n ≡ r = omega (arith, is) in
    ([], ap (text_to line told) same ∙ sym (append-nil (text_to line told r)))
rounds_front line told r (suc k) n is =
    let (rest, front) = rounds_front line told (r + 1) k n (omega (arith, is)) in
    (flat_map line (told r) ++ rest, front ∙ ap (λ (text : List ℕ). text ++ rest) (sym (round_more line told r)) ∙ append_assoc (text_to line told r) (flat_map line (told r)) rest)

-- the text of some peers is a front of that of all
pub peers_parts : {X Y : Type 0} (line : Y → List ℕ) (told : X → List Y) (xs : List X) (i : ℕ)
    → flat_map line (flat_map told xs) ≡ flat_map line (flat_map told (take i xs)) ++ flat_map line (flat_map told (drop i xs))
peers_parts line told xs i = ap (flat_map line) (parts told xs i) ∙ flat_map-append line (flat_map told (take i xs)) (flat_map told (drop i xs))
