-- What each neighbour has, after that of one changed.
use Rattle.std.proofs.Common.{◌≡◌, ℕ, ◌≤◌, ◌+◌, ◌⊎◌, arith, inl, inr, is_some, Bool, true, false, cond, List, length, Option, Some, refl, sym, ap, subst, ◌∙◌}
use Rattle.std.specs.Prelude.{◌&&◌, nat_lt, ◌||◌, [], pos}
use Rattle.std.specs.List.{IsDistinct}
use Rattle.std.specs.Option.{unwrap_or}
use Rattle.std.specs.Map.{lookup}
use Rattle.std.proofs.lemmas.Bool.Decides.{nat_tests, Decides-eqb}
use Rattle.gs_base.specs.declared.names.PeerNo.{PeerNo}
use Rattle.gs_base.specs.declared.names.Topic.{Topic}
use Rattle.gs_base.specs.Names.{same_peer, same_topic, most_topics}
use Rattle.gs_params.specs.declared.params.Params.{Params}
use Rattle.gs_score.specs.declared.accounts.Account.{Account}
use Rattle.gs_score.specs.declared.standing.Standing.{Standing}
use Rattle.gs_score.specs.Accounts.{AddsTopic, Covers, KeepsTopics, has_topic, held_in, standing_in, topic_sum}
use Rattle.gs_score.specs.Counters.{Stored}
use Rattle.gs_score.specs.Ledgers.{Adds, AreFew, Blames, Keeps, Puts, account_of, has_account, nothing_counted, standing_of}
use Rattle.gs_score.proofs.Kept.{cond_unwrap}
use Rattle.gs_score.proofs.Sums.{from_decides, same_sum}

peer_cases : (p q : PeerNo) → ((same_peer p q ≡ true) × (p.0 ≡ q.0)) ⊎ ((same_peer p q ≡ false) × (p.0 ≡ q.0 → ⊥)) → ((same_peer p q ≡ true) × (p ≡ q)) ⊎ ((same_peer p q ≡ false) × (p ≡ q → ⊥))
peer_cases p q (inl e) = inl (e.0, ap (λ (n : ℕ). record { 0 = n }) e.1)
peer_cases p q (inr e) = inr (e.0, λ same. e.1 (ap (λ (r : PeerNo). r.0) same))

pub peers_tell : (p q : PeerNo) → ((same_peer p q ≡ true) × (p ≡ q)) ⊎ ((same_peer p q ≡ false) × (p ≡ q → ⊥))
peers_tell p q = peer_cases p q (from_decides (same_peer p q) (Decides-eqb p.0 q.0))

-- one account is another now
abbrev pub Changed : List (PeerNo × Account) → List (PeerNo × Account) → PeerNo → Account → Account → Type 0
Changed old new p b a =
    (lookup (same_peer p) old ≡ Some b)
    × ((q : PeerNo) → lookup (same_peer q) new ≡ cond (same_peer p q) (Some a) (lookup (same_peer q) old))

pub account_was : (old : List (PeerNo × Account)) (p : PeerNo) (b : Account) → lookup (same_peer p) old ≡ Some b → account_of old p ≡ b
account_was old p b h = ap (λ (o : Option Account). unwrap_or o nothing_counted) h

account_is : (old new : List (PeerNo × Account)) (p : PeerNo) (b a : Account) → Changed old new p b a
    → (q : PeerNo) → account_of new q ≡ cond (same_peer p q) a (account_of old q)
account_is old new p b a h q =
    ap (λ (o : Option Account). unwrap_or o nothing_counted) (h.1 q) ∙ cond_unwrap (same_peer p q) a nothing_counted (lookup (same_peer q) old)

account_stays : (old new : List (PeerNo × Account)) (p : PeerNo) (b a : Account) → Changed old new p b a
    → (q : PeerNo) → has_account new q ≡ has_account old q
account_stays old new p b a h q =
    elim (peers_tell p q) [
      | inl e ↦ (
          let was : has_account old q ≡ true = subst (λ r. has_account old r ≡ true) e.1 (ap is_some h.0) in
          ap is_some (h.1 q) ∙ rw (e.0, was) refl
          )
      | inr e ↦ ap is_some (h.1 q) ∙ rw e.0 refl
    ]

pub is_put : (old new : List (PeerNo × Account)) (p : PeerNo) (t : Topic) (s : Standing) (b a : Account) → Changed old new p b a
    → a.misbehaviour ≡ b.misbehaviour
    → ((u : Topic) → standing_in a.topics u ≡ cond (same_topic t u) s (standing_in b.topics u))
    → Puts old new p t s
is_put old new p t s b a h same puts = record {
  standings = λ q u. elim (peers_tell p q) [
    | inl e ↦ (
        let is : account_of new q ≡ a = account_is old new p b a h q ∙ rw e.0 refl in
        let was : account_of old q ≡ b = subst (λ r. account_of old r ≡ b) e.1 (account_was old p b h.0) in
        ap (λ (x : Account). standing_in x.topics u) is
        ∙ puts u
        ∙ rw e.0 (ap (λ (x : Account). cond (same_topic t u) s (standing_in x.topics u)) (sym was))
        )
    | inr e ↦ (
        let is : account_of new q ≡ account_of old q = account_is old new p b a h q ∙ rw e.0 refl in
        rw e.0 (ap (λ (x : Account). standing_in x.topics u) is)
        )
  ];
  misbehaviours = λ q. elim (peers_tell p q) [
    | inl e ↦ (
        let is : account_of new q ≡ a = account_is old new p b a h q ∙ rw e.0 refl in
        let was : account_of old q ≡ b = subst (λ r. account_of old r ≡ b) e.1 (account_was old p b h.0) in
        ap (λ (x : Account). x.misbehaviour) is ∙ same ∙ ap (λ (x : Account). x.misbehaviour) (sym was)
        )
    | inr e ↦ (
        let is : account_of new q ≡ account_of old q = account_is old new p b a h q ∙ rw e.0 refl in
        ap (λ (x : Account). x.misbehaviour) is
        )
  ];
  accounts = account_stays old new p b a h;
}

-- what a neighbour has on a topic makes a step
pub is_stepped : (old new : List (PeerNo × Account)) (p : PeerNo) (t : Topic) (f : Standing → Standing) (b a : Account) → Changed old new p b a
    → a.misbehaviour ≡ b.misbehaviour
    → ((u : Topic) → standing_in a.topics u ≡ cond (same_topic t u) (f (standing_in b.topics t)) (standing_in b.topics u))
    → Puts old new p t (f (standing_of old p t))
is_stepped old new p t f b a h same puts =
    let here : standing_in b.topics t ≡ standing_of old p t = ap (λ (x : Account). standing_in x.topics t) (sym (account_was old p b h.0)) in
    is_put old new p t (f (standing_of old p t)) b a h same
    (λ u. puts u ∙ ap (λ (s : Standing). cond (same_topic t u) (f s) (standing_in b.topics u)) here)

peer_self : (p : PeerNo) → same_peer p p ≡ true
peer_self p =
    elim (peers_tell p p) [
      | inl e ↦ e.0
      | inr e ↦ absurd (e.1 refl)
    ]

-- the topics of those whose account stays are the same
stay : (old new : List (PeerNo × Account)) (q : PeerNo) → account_of new q ≡ account_of old q → KeepsTopics (account_of old q).topics (account_of new q).topics
stay old new q is = record {
  topics = λ u. ap (λ (x : Account). has_topic x.topics u) is;
  number = ap (λ (x : Account). length x.topics) is;
}

pub is_added : (old new : List (PeerNo × Account)) (p : PeerNo) (t : Topic) (b a : Account) → Changed old new p b a
    → AddsTopic b.topics a.topics t
    → Adds old new p t
is_added old new p t b a h adds = record {
  here =
      let is : account_of new p ≡ a = account_is old new p b a h p ∙ rw (peer_self p) refl in
      let was : account_of old p ≡ b = account_was old p b h.0 in
      subst (λ (x : Account). AddsTopic (account_of old p).topics x.topics t) (sym is)
      (subst (λ (x : Account). AddsTopic x.topics a.topics t) (sym was) adds);
  others = λ q other. stay old new q (account_is old new p b a h q ∙ rw other refl);
}

pub is_kept : (old new : List (PeerNo × Account)) (p : PeerNo) (b a : Account) → Changed old new p b a
    → KeepsTopics b.topics a.topics
    → Keeps old new
is_kept old new p b a h keeps q =
    elim (peers_tell p q) [
      | inl e ↦ (
          let is : account_of new q ≡ a = account_is old new p b a h q ∙ rw e.0 refl in
          let was : account_of old q ≡ b = subst (λ r. account_of old r ≡ b) e.1 (account_was old p b h.0) in
          subst (λ (x : Account). KeepsTopics (account_of old q).topics x.topics) (sym is)
          (subst (λ (x : Account). KeepsTopics x.topics a.topics) (sym was) keeps)
          )
      | inr e ↦ stay old new q (account_is old new p b a h q ∙ rw e.0 refl)
    ]

pub few_stay : (old new : List (PeerNo × Account)) (p : PeerNo) (b a : Account) → Changed old new p b a
    → length a.topics ≤ most_topics → AreFew old → AreFew new
few_stay old new p b a h less few q =
    elim (peers_tell p q) [
      | inl e ↦ (
          let is : account_of new q ≡ a = account_is old new p b a h q ∙ rw e.0 refl in
          subst (λ (x : Account). length x.topics ≤ most_topics) (sym is) less
          )
      | inr e ↦ (
          let is : account_of new q ≡ account_of old q = account_is old new p b a h q ∙ rw e.0 refl in
          subst (λ (x : Account). length x.topics ≤ most_topics) (sym is) (few q)
          )
    ]

pub few_of : (old : List (PeerNo × Account)) (p : PeerNo) (b : Account) → lookup (same_peer p) old ≡ Some b → AreFew old → length b.topics ≤ most_topics
few_of old p b h few = subst (λ (x : Option Account). length (unwrap_or x nothing_counted).topics ≤ most_topics) h (few p)

-- one topic more at most, where there is room for it
pub grown : (old new : List (Topic × Standing)) (has : Bool) → length new ≤ cond has (length old) (length old + 1) → length old ≤ most_topics → (has || nat_lt (length old) most_topics) ≡ true → length new ≤ most_topics
grown old new true is most room = omega (arith, is, most)
grown old new false is most room = grind (arith, nat_tests, is, room)

pub both_true : (a b : Bool) → (a && b) ≡ true → (a ≡ true) × (b ≡ true)
both_true true b h = (refl, h)
both_true false b h = cc

pub is_blamed : (old new : List (PeerNo × Account)) (p : PeerNo) (c : Stored) (b a : Account) → Changed old new p b a
    → a.topics ≡ b.topics
    → a.misbehaviour ≡ c
    → Blames old new p c
is_blamed old new p c b a h same is_c = record {
  topics = λ q. elim (peers_tell p q) [
    | inl e ↦ (
        let is : account_of new q ≡ a = account_is old new p b a h q ∙ rw e.0 refl in
        let was : account_of old q ≡ b = subst (λ r. account_of old r ≡ b) e.1 (account_was old p b h.0) in
        ap (λ (x : Account). x.topics) is ∙ same ∙ ap (λ (x : Account). x.topics) (sym was)
        )
    | inr e ↦ (
        let is : account_of new q ≡ account_of old q = account_is old new p b a h q ∙ rw e.0 refl in
        ap (λ (x : Account). x.topics) is
        )
  ];
  misbehaviours = λ q. elim (peers_tell p q) [
    | inl e ↦ (
        let is : account_of new q ≡ a = account_is old new p b a h q ∙ rw e.0 refl in
        rw e.0 (ap (λ (x : Account). x.misbehaviour) is ∙ is_c)
        )
    | inr e ↦ (
        let is : account_of new q ≡ account_of old q = account_is old new p b a h q ∙ rw e.0 refl in
        rw e.0 (ap (λ (x : Account). x.misbehaviour) is)
        )
  ];
  accounts = account_stays old new p b a h;
}

-- ---- accounts that are opened

either_nothing : (b : Bool) (x : Account) → x ≡ nothing_counted → cond b nothing_counted x ≡ nothing_counted
either_nothing true x h = refl
either_nothing false x h = h

or_true : (a r : Bool) → true ≡ (a || (true || r))
or_true true r = refl
or_true false r = refl

pub same_back : (p q : PeerNo) → same_peer q p ≡ same_peer p q
same_back p q =
    elim (peers_tell p q) [
      | inl e ↦ (
          let self : same_peer p p ≡ true = subst (λ x. same_peer p x ≡ true) (sym e.1) e.0 in
          subst (λ x. same_peer x p ≡ true) e.1 self ∙ sym e.0
          )
      | inr e ↦ elim (peers_tell q p) [
        | inl f ↦ absurd (e.1 (sym f.1))
        | inr f ↦ f.0 ∙ sym e.0
      ]
    ]

abbrev pub Opens : List (PeerNo × Account) → List (PeerNo × Account) → PeerNo → Type 0
Opens old new p = (q : PeerNo) → lookup (same_peer q) new ≡ cond (same_peer p q) (Some nothing_counted) (lookup (same_peer q) old)

pub opens_nothing : (old new : List (PeerNo × Account)) (p q : PeerNo) → Opens old new p → account_of old q ≡ nothing_counted → account_of new q ≡ nothing_counted
opens_nothing old new p q h none =
    ap (λ (o : Option Account). unwrap_or o nothing_counted) (h q)
    ∙ cond_unwrap (same_peer p q) nothing_counted nothing_counted (lookup (same_peer q) old)
    ∙ either_nothing (same_peer p q) (account_of old q) none

some_if : (b : Bool) (o : Option Account) (r : Bool) → (is_some (cond b (Some nothing_counted) o) || r) ≡ (is_some o || (b || r))
some_if true o r = or_true (is_some o) r
some_if false o r = refl

pub opens_all : (old new : List (PeerNo × Account)) (p q : PeerNo) (r : Bool) → Opens old new p → (has_account new q || r) ≡ (has_account old q || (same_peer q p || r))
opens_all old new p q r h =
    ap (λ (o : Option Account). is_some o || r) (h q)
    ∙ some_if (same_peer p q) (lookup (same_peer q) old) r
    ∙ ap (λ b. has_account old q || (b || r)) (sym (same_back p q))

pub sum_of_none : (params : Params) (decays now : ℕ) (ts : List Topic) → Covers (held_in params decays []) ts → pos 0 ≡ topic_sum params now (held_in params decays []) ts
unfolding IsDistinct
sum_of_none params decays now ts c = same_sum params decays now [] ts tt c
