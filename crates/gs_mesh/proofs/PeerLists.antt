-- Lists of peers in which none stands twice: joined, and counted inside another.
use Rattle.std.proofs.Common.{◌≡◌, ℕ, ◌+◌, ◌≤◌, Bool, true, false, cond, not, List, [], ◌∷◌, ◌++◌, length, filter, refl, sym, ◌∙◌, arith}
use Rattle.std.specs.Prelude.{◌||◌, ◌&&◌, Contains, All}
use Rattle.std.specs.List.{AllByRecursion, IsDistinct}
use Rattle.std.specs.Set.{is_member}
use Rattle.std.proofs.lemmas.List.Elements.{All-contains, All-contains_itself, All-filter, All-append, All-weaker, All-from_recursion, recursion_from_All, filter_passes}
use Rattle.std.proofs.lemmas.List.Folds.{list_any-append}
use Rattle.std.proofs.lemmas.Map.Keys.{IsDistinct-cons, IsDistinct-head, IsDistinct-tail}
use Rattle.std.proofs.lemmas.Map.Made.{is_member-Decides, is_member-filter, alike_from_same, length-from_same_keys}
use Rattle.gs_base.specs.declared.names.PeerNo.{PeerNo}
use Rattle.gs_base.specs.Names.{same_peer}
use Rattle.gs_params.specs.Picks.{IsAscending}
use Rattle.gs_params.proofs.Picking.{same_peer_equiv, same_peer_decides, distinct_from_ascending, ascending_filter}
use Rattle.gs_mesh.proofs.Ranks.{each_element, length_if}

-- ---- who is there

pub is_there : (peers : List PeerNo) (p : PeerNo) → Contains peers p → is_member same_peer peers p ≡ true
is_there peers p h = (is_member-Decides same_peer_decides peers p).1 h

pub found : (peers : List PeerNo) (p : PeerNo) → is_member same_peer peers p ≡ true → Contains peers p
found peers p h = (is_member-Decides same_peer_decides peers p).0 h

-- of the peers, those that pass a test
found_in_filter : (test : PeerNo → Bool) (peers : List PeerNo) (p : PeerNo) → is_member same_peer (filter test peers) p ≡ (is_member same_peer peers p && test p)
found_in_filter test peers p = is_member-filter same_peer_equiv test p (λ q e. alike_from_same same_peer_decides test p q e) peers

pub of_whole : (test : PeerNo → Bool) (whole : List PeerNo) (p : PeerNo) → Contains (filter test whole) p → Contains whole p
of_whole test whole p h = All-contains (Contains whole) (filter test whole) p (All-filter test (Contains whole) whole (All-contains_itself whole)) h

pub false_from_not : (b : Bool) → not b ≡ true → b ≡ false
false_from_not true h = sym h
false_from_not false h = refl

pub is_outside : (first whole : List PeerNo) (p : PeerNo) → Contains (filter (λ q. not (is_member same_peer first q)) whole) p → is_member same_peer first p ≡ false
is_outside first whole p h = false_from_not (is_member same_peer first p) (All-contains (λ q. not (is_member same_peer first q) ≡ true) (filter (λ q. not (is_member same_peer first q)) whole) p (filter_passes (λ q. not (is_member same_peer first q)) whole) h)

pub in_either : (xs ys : List PeerNo) (p : PeerNo) → is_member same_peer (xs ++ ys) p ≡ (is_member same_peer xs p || is_member same_peer ys p)
in_either xs ys p = list_any-append (same_peer p) xs ys

and_both : (a b : Bool) → a ≡ true → b ≡ true → (a && b) ≡ true
and_both a b h k = rw (h, k) refl

pub in_filter : (test : PeerNo → Bool) (whole : List PeerNo) (p : PeerNo) → Contains whole p → test p ≡ true → is_member same_peer (filter test whole) p ≡ true
in_filter test whole p there passes = found_in_filter test whole p ∙ and_both _ _ (is_there whole p there) passes

-- ---- joined

or_left : (a b : Bool) → (a || b) ≡ false → a ≡ false
or_left true b h = h
or_left false b h = refl

or_right : (a b : Bool) → (a || b) ≡ false → b ≡ false
or_right true b h = let e : true ≡ false = h in cc
or_right false b h = h

-- two lists with none twice and nobody in both
pub distinct_joined : (xs ys : List PeerNo) → IsDistinct same_peer xs → IsDistinct same_peer ys → All (λ y. is_member same_peer xs y ≡ false) ys → IsDistinct same_peer (xs ++ ys)
distinct_joined [] ys d e h = e
distinct_joined (x ∷ xs) ys d e h = IsDistinct-cons same_peer x (xs ++ ys)
    (recursion_from_All (λ y. same_peer x y ≡ false) (xs ++ ys) (All-append (λ y. same_peer x y ≡ false) xs ys
    (All-from_recursion (λ y. same_peer x y ≡ false) xs (IsDistinct-head same_peer x xs d))
    (All-weaker (λ y. is_member same_peer (x ∷ xs) y ≡ false) (λ y. same_peer x y ≡ false) (λ y k. same_peer_equiv.symm x y ∙ or_left (same_peer y x) (is_member same_peer xs y) k) ys h)))
    (distinct_joined xs ys (IsDistinct-tail same_peer x xs d) e (All-weaker (λ y. is_member same_peer (x ∷ xs) y ≡ false) (λ y. is_member same_peer xs y ≡ false) (λ y k. or_right (same_peer y x) (is_member same_peer xs y) k) ys h))

-- ---- counted

and_absorbed : (a b : Bool) → (b ≡ true → a ≡ true) → (a && b) ≡ b
and_absorbed true b h = refl
and_absorbed false true h = h refl
and_absorbed false false h = refl

-- a list has as many of its part as the part has
pub length_part : (part whole : List PeerNo) → IsDistinct same_peer part → IsAscending whole → All (Contains whole) part → length (filter (is_member same_peer part) whole) ≡ length part
length_part part whole d up inside = length-from_same_keys same_peer_equiv (filter (is_member same_peer part) whole) part
    (distinct_from_ascending (filter (is_member same_peer part) whole) (ascending_filter (is_member same_peer part) whole up)) d
    (λ p. found_in_filter (is_member same_peer part) whole p ∙ and_absorbed _ _ (λ h. is_there whole p (All-contains (Contains whole) part p inside (found part p h))))

-- each passes the third test that passes one of the others, and none passes both
pub record Apart {X : Type 0} (p q r : X → Bool) (x : X) : Type 0 where
  pub first : p x ≡ true → r x ≡ true
  pub second : q x ≡ true → r x ≡ true
  pub apart : p x ≡ true → q x ≡ false

two_at_most : (a b c : Bool) (k m n : ℕ) → (a ≡ true → c ≡ true) → (b ≡ true → c ≡ true) → (a ≡ true → b ≡ false) → k + m ≤ n → (cond a 1 0 + k) + (cond b 1 0 + m) ≤ cond c 1 0 + n
two_at_most true b c k m n h i j le = rw (j refl, h refl) (omega arith)
two_at_most false true c k m n h i j le = rw (i refl) (omega arith)
two_at_most false false true k m n h i j le = omega arith
two_at_most false false false k m n h i j le = omega arith

two_parts : {X : Type 0} (p q r : X → Bool) (xs : List X) → AllByRecursion (Apart p q r) xs → length (filter p xs) + length (filter q xs) ≤ length (filter r xs)
two_parts p q r [] all = omega arith
two_parts p q r (x ∷ xs) all = rw (length_if (p x) x (filter p xs), length_if (q x) x (filter q xs), length_if (r x) x (filter r xs)) (two_at_most (p x) (q x) (r x) _ _ _ all.0.first all.0.second all.0.apart (two_parts p q r xs all.1))

pub at_least_both : {X : Type 0} (p q r : X → Bool) (xs : List X) → ((x : X) → Contains xs x → Apart p q r x) → length (filter p xs) + length (filter q xs) ≤ length (filter r xs)
at_least_both p q r xs f = two_parts p q r xs (each_element (Apart p q r) xs f)
