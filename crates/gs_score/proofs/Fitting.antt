-- There is room for a topic where all that a history names fits a list with it.
use Rattle.std.proofs.Common.{◌≡◌, ◌≤◌, ◌<◌, suc, inl, inr, is_some, Bool, true, false, List, length, map, refl, ap, subst, ◌∙◌, arith}
use Rattle.std.specs.Prelude.{[], ◌∷◌}
use Rattle.std.specs.List.{list_any, AllByRecursion, IsDistinct}
use Rattle.std.specs.Map.{keys_of, lookup}
use Rattle.std.specs.Cmp.{IsEquivalence}
use Rattle.std.proofs.lemmas.Bool.Decides.{nat_tests}
use Rattle.std.proofs.lemmas.List.{length-map}
use Rattle.std.proofs.lemmas.Map.Made.{is_some-lookup}
use Rattle.std.proofs.lemmas.Map.Steps.{length-le_from_keys}
use Rattle.gs_base.specs.declared.names.PeerNo.{PeerNo}
use Rattle.gs_base.specs.declared.names.Topic.{Topic}
use Rattle.gs_base.specs.declared.neighbour.Neighbour.{Neighbour}
use Rattle.gs_base.specs.Names.{same_peer, same_topic, most_topics}
use Rattle.gs_score.specs.Accounts.{has_topic}
use Rattle.gs_score.specs.Ledgers.{Kept, has_account, has_room, topics_of}
use Rattle.gs_score.specs.Histories.{Agrees, History, Setting, named}
use Rattle.gs_score.proofs.Keeping.{topic_back}
use Rattle.gs_score.proofs.Naming.{all_other, named_apart}
use Rattle.gs_score.proofs.Sums.{topics_tell}

same_topic_equiv : IsEquivalence same_topic
same_topic_equiv = record {
  refl = λ t. elim (topics_tell t t) [
    | inl e ↦ e.0
    | inr e ↦ absurd (e.1 refl)
  ];
  symm = λ t u. topic_back u t;
  congr = λ t u v e. elim (topics_tell t u) [
    | inl f ↦ ap (λ x. same_topic x v) f.1
    | inr f ↦ cc
  ];
}

-- what is in a list is in each that has all of it
in_both : (ts us : List Topic) (t : Topic) → AllByRecursion (λ u. list_any (same_topic u) ts ≡ true) us → list_any (same_topic t) us ≡ true → list_any (same_topic t) ts ≡ true
in_both ts [] t all h = cc
in_both ts (u ∷ us) t all h =
    elim (topics_tell t u) [
      | inl e ↦ ap (λ x. list_any (same_topic x) ts) e.1 ∙ all.0
      | inr e ↦ in_both ts us t all.1 (rw e.0 at h)
    ]

abbrev keyed : List Topic → List (Topic × Unit {0})
keyed ts = map (λ t. (t, tt)) ts

keys_keyed : (ts : List Topic) → keys_of (keyed ts) ≡ ts
keys_keyed [] = refl
keys_keyed (t ∷ ts) = ap (λ us. t ∷ us) (keys_keyed ts)

some_keyed : (ts : List Topic) (t : Topic) → list_any (same_topic t) ts ≡ true → is_some (lookup (same_topic t) (keyed ts)) ≡ true
some_keyed ts t h = is_some-lookup (same_topic t) (keyed ts) ∙ ap (list_any (same_topic t)) (keys_keyed ts) ∙ h

-- a list without the same topic twice is no longer than one that has all of it
pub no_longer : (us ts : List Topic) → IsDistinct same_topic us → AllByRecursion (λ u. list_any (same_topic u) ts ≡ true) us → length us ≤ length ts
no_longer us ts apart all =
    subst (λ n. length us ≤ n) (length-map ts (λ t. (t, tt)))
    (length-le_from_keys same_topic_equiv us (keyed ts) apart (λ t h. some_keyed ts t (in_both ts us t all h)))

pub apart_more : (t : Topic) (us : List Topic) → list_any (same_topic t) us ≡ false → IsDistinct same_topic us → IsDistinct same_topic (t ∷ us)
unfolding IsDistinct
apart_more t us none apart = (all_other t us none, apart)

pub room_fits : (s : Setting) (k : Kept) (H : History) (q : PeerNo) (t : Topic) (ts : List Topic)
    → list_any (λ (n : Neighbour). same_peer q n.peer) s.neighbours ≡ true
    → length ts ≤ most_topics
    → AllByRecursion (λ u. list_any (same_topic u) ts ≡ true) (named H q)
    → list_any (same_topic t) ts ≡ true
    → Agrees s k H
    → has_room k.accounts q t ≡ true
room_fits s k H q t ts neighbour few all within a = by (list_any (same_topic t) (named H q)) refl
  where
    by : (b : Bool) → list_any (same_topic t) (named H q) ≡ b → has_room k.accounts q t ≡ true
    by true e =
        let account : has_account k.accounts q ≡ true = a.neighbours q ∙ neighbour in
        let has : has_topic (topics_of k.accounts q) t ≡ true = a.knows q t ∙ e in
        rw (account, has) refl
    by false e =
        let account : has_account k.accounts q ≡ true = a.neighbours q ∙ neighbour in
        let has : has_topic (topics_of k.accounts q) t ≡ false = a.knows q t ∙ e in
        let fits : suc (length (named H q)) ≤ length ts = no_longer (t ∷ named H q) ts (apart_more t (named H q) e (named_apart H q)) (within, all) in
        let less : length (topics_of k.accounts q) < most_topics = omega (arith, a.counts q, fits, few) in
        rw (account, has) (grind (arith, nat_tests, less))
