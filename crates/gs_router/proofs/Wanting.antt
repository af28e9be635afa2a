-- What is wanted of an offer, one identifier after the other.
use Rattle.std.proofs.Common.{◌≡◌, ◌≤◌, ℕ, zero, suc, Bool, true, false, if◌then◌else◌, cond, List, [], ◌∷◌, ◌++◌, length, take, filter, fold, refl, sym, ap, subst, ◌∙◌, arith}
use Rattle.std.specs.List.{list_any, AllByRecursion}
use Rattle.std.proofs.lemmas.Bool.Decides.{nat_tests}
use Rattle.std.proofs.Math.Nat.{min-le_right}
use Rattle.gs_rules.specs.Peers.{Peer}
use Rattle.gs_rules.specs.Tables.{Entries}
use Rattle.gs_base.specs.Names.{HasIdentifierLength}
use Rattle.gs_base.specs.Rpcs.{most_identifiers}
use Rattle.gs_rules.specs.Rules.{each_once, is_wanted, once_after, same_bytes}
use Rattle.gs_base.specs.declared.names.PeerNo.{PeerNo}
use Rattle.gs_router.specs.declared.tables.budgets.Budget.{Budget}
use Rattle.gs_router.specs.Tables.{budget_left, budget_of}
use Rattle.gs_router.specs.Offers.{add_wanted}

-- an identifier that is wanted was added
pub added : (p : Peer) (L : Entries) (at : ℕ) (found new : List (List ℕ)) (bytes copy : List ℕ)
    → new ≡ once_after found copy → copy ≡ bytes → is_wanted p L at bytes ≡ true → new ≡ add_wanted p L at found bytes
added p L at found new bytes copy is same wanted =
    is ∙ ap (once_after found) same ∙ ap (λ (b : Bool). if b then once_after found bytes else found) (sym wanted)

-- the fold of what is left, from what was found
pub one_more : (test : List ℕ → Bool) (found : List (List ℕ)) (x : List ℕ) (xs : List (List ℕ))
    → fold once_after (if test x then once_after found x else found) (filter test xs) ≡ fold once_after found (filter test (x ∷ xs))
one_more test found x xs = by (test x)
  where
    by : (b : Bool) → fold once_after (if b then once_after found x else found) (filter test xs) ≡ fold once_after found (cond b (x ∷ filter test xs) (filter test xs))
    by true = refl
    by false = refl

-- ---- what is wanted is short

few_taken : {X : Type 0} (n : ℕ) (xs : List X) → length (take n xs) ≤ n
few_taken zero xs = omega arith
few_taken (suc n) [] = omega arith
few_taken (suc n) (x ∷ xs) = omega (arith, few_taken n xs)

abbrev AreLong : List (List ℕ) → Type 0
AreLong ids = AllByRecursion HasIdentifierLength ids

long_taken : (n : ℕ) (ids : List (List ℕ)) → AreLong ids → AreLong (take n ids)
long_taken zero ids all = tt
long_taken (suc n) [] all = tt
long_taken (suc n) (id ∷ ids) all = (all.0, long_taken n ids all.1)

long_after : (found : List (List ℕ)) (id : List ℕ) → AreLong found → length id ≡ 32 → AreLong (found ++ id ∷ [])
long_after [] id all long = (long, tt)
long_after (one ∷ found) id all long = (all.0, long_after found id all.1 long)

long_once : (found : List (List ℕ)) (id : List ℕ) → AreLong found → length id ≡ 32 → AreLong (once_after found id)
long_once found id all long = by (list_any (same_bytes id) found)
  where
    by : (b : Bool) → AreLong (if b then found else found ++ id ∷ [])
    by true = all
    by false = long_after found id all long

wanted_is_long : (p : Peer) (L : Entries) (at : ℕ) (bytes : List ℕ) → is_wanted p L at bytes ≡ true → length bytes ≡ 32
wanted_is_long p L at bytes is = grind (arith, nat_tests)

long_fold : (p : Peer) (L : Entries) (at : ℕ) (found xs : List (List ℕ)) → AreLong found → AreLong (fold once_after found (filter (is_wanted p L at) xs))
long_fold p L at found [] all = all
long_fold p L at found (x ∷ xs) all = by (is_wanted p L at x) refl (λ keys. long_fold p L at keys xs)
  where
    by : (b : Bool) → is_wanted p L at x ≡ b → ((keys : List (List ℕ)) → AreLong keys → AreLong (fold once_after keys (filter (is_wanted p L at) xs)))
        → AreLong (fold once_after found (cond b (x ∷ filter (is_wanted p L at) xs) (filter (is_wanted p L at) xs)))
    by true is so = so (once_after found x) (long_once found x all (wanted_is_long p L at x is))
    by false is so = so found all

-- identifiers that are wanted have the length of one
pub wanted_long : (p : Peer) (L : Entries) (at room : ℕ) (xs ids : List (List ℕ)) → ids ≡ take room (each_once (filter (is_wanted p L at) xs)) → AreLong ids
wanted_long p L at room xs ids is = subst AreLong (sym is) (long_taken room (each_once (filter (is_wanted p L at) xs)) (long_fold p L at [] xs tt))

-- identifiers that are wanted are no more than there is room for
pub wanted_few : (p : Peer) (L : Entries) (at room most : ℕ) (xs ids : List (List ℕ)) → ids ≡ take room (each_once (filter (is_wanted p L at) xs)) → room ≤ most → length ids ≤ most
wanted_few p L at room most xs ids is few = omega (arith, ap length is, few_taken room (each_once (filter (is_wanted p L at) xs)))

-- there is never more room than a request has
pub room_few : (p : Peer) (L : Entries) (q : PeerNo) (full here : Budget) → here ≡ budget_left full L q → full ≡ budget_of p → here.ids ≤ most_identifiers
room_few p L q full here is at_first =
    omega (arith, ap (λ (b : Budget). b.ids) is, ap (λ (b : Budget). b.ids) at_first, min-le_right p.params.timing.max_ihave_ids most_identifiers)
