-- What the rule of an offer may give, and that a request for what is wanted fits a frame.
use Rattle.std.proofs.Common.{◌≡◌, refl, ℕ, ◌-◌, zero, suc, ◌≤◌, min, arith, Bool, true, false, List, [], ◌∷◌, ◌++◌, length, take, length-take, if◌then◌else◌}
use Rattle.std.specs.List.{AllByRecursion, list_any}
use Rattle.std.specs.Prelude.{not, ◌&&◌, nat_eq, nat_le, filter, fold, is_some}
use Rattle.std.proofs.lemmas.Bool.Decides.{nat_tests}
use Rattle.gs_base.specs.declared.names.PeerNo.{PeerNo}
use Rattle.gs_base.specs.declared.names.Millis.{Millis}
use Rattle.gs_base.specs.declared.control.IHave.{IHave}
use Rattle.gs_base.specs.Names.{topic_or_empty, HasIdentifierLength}
use Rattle.gs_base.specs.Rpcs.{most_identifiers}
use Rattle.gs_wire.proofs.RoundTrip.{all-append}
use Rattle.gs_rules.specs.declared.trace.Entry.{Entry}
use Rattle.gs_rules.specs.Peers.{Peer, seen_ttl}
use Rattle.gs_rules.specs.Tables.{Entries, asked, joined, offers, seen}
use Rattle.gs_rules.specs.Scoring.{is_ignored}
use Rattle.gs_rules.specs.Rules.{Gives, asked_for, asking, counted, each_once, have_rule, is_wanted, room_to_ask, same_bytes, wanted, no_effects}
use Rattle.gs_rules.specs.Modes.{SaysTheSame, Follows, free}

-- ---- what the rule gives

-- What holds of an entry that does nothing, of one that only counts the offer and of each that asks for what is wanted,
-- holds of any that follows the rule.
module _ (Q : Entry → Type 0) (p : Peer) (L : Entries) (at : Millis) (q : PeerNo) (offer : IHave) (e : Entry) (none : SaysTheSame e.effects no_effects → Q e) (alone : SaysTheSame e.effects (counted q) → Q e) (asks : (place : ℕ) → SaysTheSame e.effects (asking p at q (wanted p L at.0 q offer.ids) place) → Q e) where
  when_asked : (ids : List (List ℕ)) → ((place : ℕ) → SaysTheSame e.effects (asking p at q ids place) → Q e) → Follows free (asked_for p at q ids) tt e.effects tt → Q e
  when_asked [] these effects = alone effects.0
  when_asked (id ∷ ids) these effects = these effects.0 effects.3.0

  by_tests : (ignored full is_joined : Bool)
      → Follows free
      (if ignored then Gives no_effects
      else if full then Gives no_effects
      else if not is_joined then Gives (counted q)
      else asked_for p at q (wanted p L at.0 q offer.ids)) tt e.effects tt
      → Q e
  by_tests true full is_joined effects = none effects.0
  by_tests false true is_joined effects = none effects.0
  by_tests false false false effects = alone effects.0
  by_tests false false true effects = when_asked (wanted p L at.0 q offer.ids) asks effects

  pub what_is_offered : Follows free (have_rule p L at q offer) tt e.effects tt → Q e
  what_is_offered effects = by_tests (is_ignored p L at.0 q) (nat_le p.params.timing.max_ihave (offers L q)) (joined L (topic_or_empty offer.topic)) effects

-- ---- what is wanted

-- what is of 32 bytes and something else, is of 32 bytes
long_enough : (n : ℕ) (new : Bool) → (nat_eq n 32 && new) ≡ true → n ≡ 32
long_enough n new both = grind (arith, nat_tests)

filtered_long : (test : List ℕ → Bool) (ids : List (List ℕ)) → ((id : List ℕ) → test id ≡ true → HasIdentifierLength id) → AllByRecursion HasIdentifierLength (filter test ids)
filtered_long test [] each = tt
filtered_long test (id ∷ ids) each = by (test id) refl (filtered_long test ids each)
  where
    by : (passes : Bool) → test id ≡ passes → AllByRecursion HasIdentifierLength (filter test ids) → AllByRecursion HasIdentifierLength (filter test (id ∷ ids))
    by true is rest = rw is (each id is, rest)
    by false is rest = rw is rest

-- what is among them already comes no second time
once_long : (before ids : List (List ℕ)) → AllByRecursion HasIdentifierLength before → AllByRecursion HasIdentifierLength ids → AllByRecursion HasIdentifierLength (fold (λ before id. if list_any (same_bytes id) before then before else before ++ id ∷ []) before ids)
once_long before [] h k = h
once_long before (id ∷ ids) h k = once_long (if list_any (same_bytes id) before then before else before ++ id ∷ []) ids (by (list_any (same_bytes id) before)) k.1
  where
    by : (known : Bool) → AllByRecursion HasIdentifierLength (if known then before else before ++ id ∷ [])
    by true = h
    by false = all-append HasIdentifierLength before (id ∷ []) h (k.0, tt)

taken_long : (n : ℕ) (ids : List (List ℕ)) → AllByRecursion HasIdentifierLength ids → AllByRecursion HasIdentifierLength (take n ids)
taken_long zero ids h = tt
taken_long (suc n) [] h = tt
taken_long (suc n) (id ∷ ids) h = (h.0, taken_long n ids h.1)

-- all of it has the length of an identifier
pub wanted_long : (p : Peer) (L : Entries) (at : ℕ) (q : PeerNo) (ids : List (List ℕ)) → AllByRecursion HasIdentifierLength (wanted p L at q ids)
wanted_long p L at q ids =
    taken_long (room_to_ask p L q) (each_once (filter (is_wanted p L at) ids))
    (once_long [] (filter (is_wanted p L at) ids) tt
    (filtered_long (is_wanted p L at) ids (λ id is. long_enough (length id) (not (is_some (seen (seen_ttl p) L (record { 0 = id }) at))) is)))

taken_few : (n most : ℕ) (ids : List (List ℕ)) → n ≤ most → length (take n ids) ≤ most
taken_few n most ids few = omega (arith, length-take n ids)

room_is_small : (a b c : ℕ) → min a b - c ≤ b
room_is_small a b c = omega arith

-- what is wanted is no more than an RPC may hold
pub wanted_few : (p : Peer) (L : Entries) (at : ℕ) (q : PeerNo) (ids : List (List ℕ)) → length (wanted p L at q ids) ≤ most_identifiers
wanted_few p L at q ids =
    taken_few (room_to_ask p L q) most_identifiers (each_once (filter (is_wanted p L at) ids)) (room_is_small p.params.timing.max_ihave_ids most_identifiers (asked L q))
