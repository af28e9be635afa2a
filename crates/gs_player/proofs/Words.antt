-- What is said, when more is said after it.
use Rattle.std.proofs.Common.{◌≡◌, ℕ, zero, suc, Bool, true, false, if◌then◌else◌, ◌&&◌, nat_eq, List, [], ◌∷◌, ◌++◌, refl, sym, ap, ap₂, subst, ◌∙◌, append_assoc, true≢false}
use Rattle.gs_base.specs.Tokens.{Byte, EndOf, Close as Closing, Said, bytes_of}
use Rattle.gs_rules.specs.Hearing.{after, behind, bytes_before, closes, front, said_in, Inbound, IsBetween, ComesIn}
use Rattle.gs_player.specs.Ended.{ends, whole}

-- ---- a close

pub closes_append : (v w : Said) → closes v ≡ false → closes (v ++ w) ≡ closes w
closes_append [] w h = refl
closes_append (Byte b ∷ v) w h = closes_append v w h
closes_append (EndOf r ∷ v) w h = closes_append v w h
closes_append (Closing ∷ v) w h = absurd (true≢false h)

-- ---- where a round has ended, it stays as it is

front_stays : (r : ℕ) (v w : Said) → ends r v ≡ true → front r (v ++ w) ≡ front r v
front_stays r [] w h = absurd (true≢false (sym h))
front_stays r (Byte b ∷ v) w h = ap (λ (u : Said). Byte b ∷ u) (front_stays r v w h)
front_stays r (EndOf k ∷ v) w h = either (nat_eq k r) h (front_stays r v w)
  where
    either : (b : Bool) → (if b then true else ends r v) ≡ true → (ends r v ≡ true → front r (v ++ w) ≡ front r v) → (if b then [] else front r (v ++ w)) ≡ (if b then [] else front r v)
    either true h again = refl
    either false h again = again h
front_stays r (Closing ∷ v) w h = refl

behind_stays : (r : ℕ) (v w : Said) → ends r v ≡ true → behind r (v ++ w) ≡ behind r v ++ w
behind_stays r [] w h = absurd (true≢false (sym h))
behind_stays r (Byte b ∷ v) w h = behind_stays r v w h
behind_stays r (EndOf k ∷ v) w h = either (nat_eq k r) h (behind_stays r v w)
  where
    either : (b : Bool) → (if b then true else ends r v) ≡ true → (ends r v ≡ true → behind r (v ++ w) ≡ behind r v ++ w) → (if b then v ++ w else behind r (v ++ w)) ≡ (if b then v else behind r v) ++ w
    either true h again = refl
    either false h again = again h
behind_stays r (Closing ∷ v) w h = refl

ends_stays : (r : ℕ) (v w : Said) → ends r v ≡ true → ends r (v ++ w) ≡ true
ends_stays r [] w h = absurd (true≢false (sym h))
ends_stays r (Byte b ∷ v) w h = ends_stays r v w h
ends_stays r (EndOf k ∷ v) w h = either (nat_eq k r) h (ends_stays r v w)
  where
    either : (b : Bool) → (if b then true else ends r v) ≡ true → (ends r v ≡ true → ends r (v ++ w) ≡ true) → (if b then true else ends r (v ++ w)) ≡ true
    either true h again = refl
    either false h again = again h
ends_stays r (Closing ∷ v) w h = refl

-- ---- where it has not, it goes on

pub front_goes : (r : ℕ) (v w : Said) → ends r v ≡ false → front r (v ++ w) ≡ front r v ++ front r w
front_goes r [] w h = refl
front_goes r (Byte b ∷ v) w h = ap (λ (u : Said). Byte b ∷ u) (front_goes r v w h)
front_goes r (EndOf k ∷ v) w h = either (nat_eq k r) h (front_goes r v w)
  where
    either : (b : Bool) → (if b then true else ends r v) ≡ false → (ends r v ≡ false → front r (v ++ w) ≡ front r v ++ front r w) → (if b then [] else front r (v ++ w)) ≡ (if b then [] else front r v) ++ front r w
    either true h again = absurd (true≢false h)
    either false h again = again h
front_goes r (Closing ∷ v) w h = absurd (true≢false h)

pub behind_goes : (r : ℕ) (v w : Said) → ends r v ≡ false → behind r (v ++ w) ≡ behind r w
behind_goes r [] w h = refl
behind_goes r (Byte b ∷ v) w h = behind_goes r v w h
behind_goes r (EndOf k ∷ v) w h = either (nat_eq k r) h (behind_goes r v w)
  where
    either : (b : Bool) → (if b then true else ends r v) ≡ false → (ends r v ≡ false → behind r (v ++ w) ≡ behind r w) → (if b then v ++ w else behind r (v ++ w)) ≡ behind r w
    either true h again = absurd (true≢false h)
    either false h again = again h
behind_goes r (Closing ∷ v) w h = absurd (true≢false h)

pub ends_goes : (r : ℕ) (v w : Said) → ends r v ≡ false → ends r (v ++ w) ≡ ends r w
ends_goes r [] w h = refl
ends_goes r (Byte b ∷ v) w h = ends_goes r v w h
ends_goes r (EndOf k ∷ v) w h = either (nat_eq k r) h (ends_goes r v w)
  where
    either : (b : Bool) → (if b then true else ends r v) ≡ false → (ends r v ≡ false → ends r (v ++ w) ≡ ends r w) → (if b then true else ends r (v ++ w)) ≡ ends r w
    either true h again = absurd (true≢false h)
    either false h again = again h
ends_goes r (Closing ∷ v) w h = absurd (true≢false h)

-- ---- over the rounds

and_left : (a b : Bool) → (a && b) ≡ true → a ≡ true
and_left true b h = refl
and_left false b h = absurd (true≢false (sym h))

and_right : (a b : Bool) → (a && b) ≡ true → b ≡ true
and_right true b h = h
and_right false b h = absurd (true≢false (sym h))

pub and_same : (a b : Bool) → a ≡ true → (a && b) ≡ b
and_same true b h = refl
and_same false b h = absurd (true≢false (sym h))

pub whole_before : (r : ℕ) (w : Said) → whole (suc r) w ≡ true → whole r w ≡ true
whole_before r w h = and_left (whole r w) (ends r (after r w)) h

whole_ends : (r : ℕ) (w : Said) → whole (suc r) w ≡ true → ends r (after r w) ≡ true
whole_ends r w h = and_right (whole r w) (ends r (after r w)) h

-- where r rounds have ended, more goes after them
pub after_stays : (r : ℕ) (v w : Said) → whole r v ≡ true → after r (v ++ w) ≡ after r v ++ w
after_stays zero v w h = refl
after_stays (suc r) v w h =
    ap (behind r) (after_stays r v w (whole_before r v h)) ∙ behind_stays r (after r v) w (whole_ends r v h)

pub whole_stays : (r : ℕ) (v w : Said) → whole r v ≡ true → whole r (v ++ w) ≡ true
whole_stays zero v w h = refl
whole_stays (suc r) v w h =
    ap₂ (λ (a b : Bool). a && b) (whole_stays r v w (whole_before r v h))
    (ap (ends r) (after_stays r v w (whole_before r v h)) ∙ ends_stays r (after r v) w (whole_ends r v h))

pub said_in_stays : (r : ℕ) (v w : Said) → whole (suc r) v ≡ true → said_in r (v ++ w) ≡ said_in r v
said_in_stays r v w h = ap (front r) (after_stays r v w (whole_before r v h)) ∙ front_stays r (after r v) w (whole_ends r v h)

pub bytes_stay : (r : ℕ) (v w : Said) → whole r v ≡ true → bytes_before r (v ++ w) ≡ bytes_before r v
bytes_stay zero v w h = refl
bytes_stay (suc r) v w h =
    ap₂ (λ (xs : List ℕ) (u : Said). xs ++ bytes_of u) (bytes_stay r v w (whole_before r v h)) (said_in_stays r v w h)

-- what there is to hear in a round doesn't change when more is said, once the round before it has ended
pub comes_stays : (r : ℕ) (v w : Said) (x : Inbound) → whole r v ≡ true → ComesIn r v x → ComesIn r (v ++ w) x
comes_stays zero v w x h comes = comes
comes_stays (suc r) v w x h comes = (
  subst (λ (b : List ℕ). IsBetween b (bytes_before (suc r) (v ++ w)) x) (sym (bytes_stay r v w (whole_before r v h)))
      (subst (λ (b : List ℕ). IsBetween (bytes_before r v) b x) (sym (bytes_stay (suc r) v w h)) comes.0),
  comes.1 ∙ ap closes (sym (said_in_stays r v w h)),
)

-- ---- all of it

bytes_at : (r : ℕ) (w : Said) → bytes_of w ≡ bytes_of (front r w) ++ bytes_of (behind r w)
bytes_at r [] = refl
bytes_at r (Byte b ∷ w) = ap (λ (xs : List ℕ). b ∷ xs) (bytes_at r w)
bytes_at r (EndOf k ∷ w) = either (nat_eq k r) (bytes_at r w)
  where
    either : (b : Bool) → bytes_of w ≡ bytes_of (front r w) ++ bytes_of (behind r w) → bytes_of w ≡ bytes_of (if b then [] else front r w) ++ bytes_of (if b then w else behind r w)
    either true again = refl
    either false again = again
bytes_at r (Closing ∷ w) = refl

-- the bytes of the first r rounds, and those after them
pub bytes_split : (r : ℕ) (w : Said) → bytes_of w ≡ bytes_before r w ++ bytes_of (after r w)
bytes_split zero w = refl
bytes_split (suc r) w =
    bytes_split r w ∙ ap (λ (xs : List ℕ). bytes_before r w ++ xs) (bytes_at r (after r w))
    ∙ sym (append_assoc (bytes_before r w) (bytes_of (said_in r w)) (bytes_of (behind r (after r w))))

closes_behind : (r : ℕ) (w : Said) → closes (behind r w) ≡ closes w
closes_behind r [] = refl
closes_behind r (Byte b ∷ w) = closes_behind r w
closes_behind r (EndOf k ∷ w) = either (nat_eq k r) (closes_behind r w)
  where
    either : (b : Bool) → closes (behind r w) ≡ closes w → closes (if b then w else behind r w) ≡ closes w
    either true again = refl
    either false again = again
closes_behind r (Closing ∷ w) = refl

-- a close stays after all rounds
pub closes_after : (r : ℕ) (w : Said) → closes (after r w) ≡ closes w
closes_after zero w = refl
closes_after (suc r) w = closes_behind r (after r w) ∙ closes_after r w
