-- What is kept says what happened, after each change.
use Rattle.std.proofs.Common.{◌≡◌, ℕ, suc, ◌+◌, ◌≤◌, ◌⊎◌, inl, inr, Bool, true, false, cond, List, length, Option, Some, None, refl, sym, ap, ap₂, subst, ◌∙◌, arith, ℤ, ◌+ℤ◌}
use Rattle.std.specs.Prelude.{[], ◌∷◌, ◌||◌}
use Rattle.std.specs.List.{list_any}
use Rattle.std.specs.Option.{option_map_or}
use Rattle.gs_base.specs.declared.names.PeerNo.{PeerNo}
use Rattle.gs_base.specs.declared.names.Topic.{Topic}
use Rattle.gs_base.specs.declared.names.Millis.{Millis}
use Rattle.gs_base.specs.declared.mark.Mark.{Mark}
use Rattle.gs_params.specs.declared.params.Factors.{Factors}
use Rattle.gs_params.specs.declared.params.Params.{Params}
use Rattle.gs_base.specs.Names.{same_peer, same_topic}
use Rattle.gs_score.specs.declared.accounts.Account.{Account}
use Rattle.gs_score.specs.declared.counter.Decay.{Decay}
use Rattle.gs_score.specs.declared.rules.TopicRules.{TopicRules}
use Rattle.gs_score.specs.declared.standing.Kind.{Kind}
use Rattle.gs_score.specs.declared.standing.Kind.TheVariants.{First, Near, Deficit, Invalid}
use Rattle.gs_score.specs.declared.standing.Standing.{Standing}
use Rattle.gs_score.specs.Counters.{Stored, most_counted, raised, decay_step, read_at}
use Rattle.gs_score.specs.Standings.{Held, decayed_held, held, pruned, raised_held, raised_standing}
use Rattle.gs_score.specs.Accounts.{AddsTopic, Covers, KeepsTopics, has_topic, held_in, misbehaviour_decay, rules_of, topic_sum}
use Rattle.gs_score.specs.Formula.{topic_part}
use Rattle.gs_score.specs.Addresses.{app_of, number_with}
use Rattle.gs_score.specs.declared.addresses.AddressEntry.{AddressEntry}
use Rattle.gs_score.specs.Ranges.{IsUpTo}
use Rattle.gs_score.specs.Ledgers.{Adds, AreFew, IsSound, Keeps, Kept, Puts, PutsIn, misbehaviour_of, same_pair, standing_of, topics_of}
use Rattle.gs_score.specs.Histories.{Agrees, Change, Decayed, Grafted, History, Left, Marked, Raise, Setting, addresses_in, blamed, decays, held_after, held_by, misbehaved_after, misbehaviour, named, named_after, one, raise_of, with_topic}
use Rattle.gs_score.proofs.Accounting.{peers_tell}
use Rattle.gs_score.proofs.Decaying.{read-later}
use Rattle.gs_score.proofs.Raising.{held-raised}
use Rattle.gs_score.proofs.Stepping.{held-later}
use Rattle.gs_score.proofs.Sums.{symm, topics_tell}

-- ---- pairs of a neighbour and a topic

pub pairs_tell : (p : PeerNo) (t : Topic) (q : PeerNo) (u : Topic) → ((same_pair p t q u ≡ true) × (p ≡ q) × (t ≡ u)) ⊎ (same_pair p t q u ≡ false)
pairs_tell p t q u =
    elim (peers_tell p q) [
      | inl e ↦ elim (topics_tell t u) [
        | inl f ↦ inl (rw (e.0, f.0) refl, e.1, f.1)
        | inr f ↦ inr (rw (e.0, f.0) refl)
      ]
      | inr e ↦ inr (rw e.0 refl)
    ]

pub pair_self : (p : PeerNo) (t : Topic) → same_pair p t p t ≡ true
pair_self p t =
    elim (pairs_tell p t p t) [
      | inl e ↦ e.0
      | inr e ↦ absurd (
          elim (peers_tell p p) [
            | inl f ↦ elim (topics_tell t t) [
              | inl g ↦ cc
              | inr g ↦ g.1 refl
            ]
            | inr f ↦ f.1 refl
          ])
    ]

-- ---- bounds

either : {A : Type 0} (P : A → Type 0) (b : Bool) (x y : A) → P x → P y → P (cond b x y)
either P true x y p q = p
either P false x y p q = q

pub sound_put : (k : Kept) (es : List (PeerNo × Account)) (p : PeerNo) (t : Topic) (s : Standing)
    → IsSound k → Puts k.accounts es p t s → AreFew es → IsUpTo k.decays s → IsSound (record k { accounts = es })
sound_put k es p t s h puts few past = record {
  in_range = h.in_range;
  few = few;
  standings = λ q u.
      subst (IsUpTo k.decays) (sym (puts.standings q u))
      (either (IsUpTo k.decays) (same_pair p t q u) s (standing_of k.accounts q u) past (h.standings q u));
  misbehaviours = λ q. subst (λ (c : Stored). c.decays ≤ k.decays) (sym (puts.misbehaviours q)) (h.misbehaviours q);
  apps = h.apps;
  addresses = h.addresses;
}

pub up_to_raised : (r : TopicRules) (kind : Kind) (by decays : ℕ) (s : Standing) → IsUpTo decays s → IsUpTo decays (raised_standing r kind by decays s)
up_to_raised r First by decays s h First = omega arith
up_to_raised r First by decays s h Near = h Near
up_to_raised r First by decays s h Deficit = h Deficit
up_to_raised r First by decays s h Invalid = h Invalid
up_to_raised r Near by decays s h First = h First
up_to_raised r Near by decays s h Near = omega arith
up_to_raised r Near by decays s h Deficit = h Deficit
up_to_raised r Near by decays s h Invalid = h Invalid
up_to_raised r Deficit by decays s h First = h First
up_to_raised r Deficit by decays s h Near = h Near
up_to_raised r Deficit by decays s h Deficit = omega arith
up_to_raised r Deficit by decays s h Invalid = h Invalid
up_to_raised r Invalid by decays s h First = h First
up_to_raised r Invalid by decays s h Near = h Near
up_to_raised r Invalid by decays s h Deficit = h Deficit
up_to_raised r Invalid by decays s h Invalid = omega arith

-- who comes into a mesh or leaves it keeps its counters
pub up_to_since : (since : Option Millis) (decays : ℕ) (s : Standing) → IsUpTo decays s → IsUpTo decays (record s { since = since })
up_to_since since decays s h First = h First
up_to_since since decays s h Near = h Near
up_to_since since decays s h Deficit = h Deficit
up_to_since since decays s h Invalid = h Invalid

-- ---- topics

-- a neighbour has something on these topics, and on no other
abbrev pub IsOn : List (Topic × Standing) → List Topic → Type 0
IsOn topics ts = ((u : Topic) → has_topic topics u ≡ list_any (same_topic u) ts) × (length topics ≡ length ts)

pub topic_back : (t u : Topic) → same_topic u t ≡ same_topic t u
topic_back t u = symm same_topic u t (topics_tell u t) (topics_tell t u)

any_with : (t u : Topic) (ts : List Topic) → list_any (same_topic u) (with_topic t ts) ≡ (same_topic t u || list_any (same_topic u) ts)
any_with t u ts = by (list_any (same_topic t) ts) refl
  where
    by : (b : Bool) → list_any (same_topic t) ts ≡ b → list_any (same_topic u) (cond b ts (t ∷ ts)) ≡ (same_topic t u || list_any (same_topic u) ts)
    by true e =
        elim (topics_tell t u) [
          | inl f ↦ (
              let here : list_any (same_topic u) ts ≡ true = ap (λ y. list_any (same_topic y) ts) (sym f.1) ∙ e in
              rw (f.0, here) refl
              )
          | inr f ↦ rw f.0 refl
        ]
    by false e = ap (λ b. b || list_any (same_topic u) ts) (topic_back t u)

length_with : (b : Bool) (t : Topic) (ts : List Topic) → length (cond b ts (t ∷ ts)) ≡ cond b (length ts) (suc (length ts))
length_with true t ts = refl
length_with false t ts = refl

on_more : (old new : List (Topic × Standing)) (t : Topic) (ts : List Topic) → AddsTopic old new t → IsOn old ts → IsOn new (with_topic t ts)
on_more old new t ts adds on = (
  λ u. adds.topics u ∙ ap (λ b. same_topic t u || b) (on.0 u) ∙ sym (any_with t u ts),
  adds.number ∙ ap₂ (λ b n. cond b n (suc n)) (on.0 t) on.1 ∙ sym (length_with (list_any (same_topic t) ts) t ts),
)

on_same : (old new : List (Topic × Standing)) (ts : List Topic) → KeepsTopics old new → IsOn old ts → IsOn new ts
on_same old new ts keeps on = (λ u. keeps.topics u ∙ on.0 u, keeps.number ∙ on.1)

-- ---- what happened

-- a change that names a topic of a neighbour
abbrev pub NamesTopic : Change → PeerNo → Topic → Type 0
NamesTopic c p t = (q : PeerNo) (ts : List Topic) → named_after q c ts ≡ cond (same_peer p q) (with_topic t ts) ts

on_named : (old new : List (PeerNo × Account)) (H : History) (c : Change) (p : PeerNo) (t : Topic)
    → NamesTopic c p t → Adds old new p t
    → ((q : PeerNo) → IsOn (topics_of old q) (named H q))
    → (q : PeerNo) → IsOn (topics_of new q) (named (c ∷ H) q)
on_named old new H c p t names adds on q =
    elim (peers_tell p q) [
      | inl e ↦ (
          let more : AddsTopic (topics_of old q) (topics_of new q) t = subst (λ x. AddsTopic (topics_of old x) (topics_of new x) t) e.1 adds.here in
          let is : named (c ∷ H) q ≡ with_topic t (named H q) = names q (named H q) ∙ rw e.0 refl in
          subst (IsOn (topics_of new q)) (sym is) (on_more (topics_of old q) (topics_of new q) t (named H q) more (on q))
          )
      | inr e ↦ (
          let is : named (c ∷ H) q ≡ named H q = names q (named H q) ∙ rw e.0 refl in
          subst (IsOn (topics_of new q)) (sym is) (on_same (topics_of old q) (topics_of new q) (named H q) (adds.others q e.0) (on q))
          )
    ]

-- a change that concerns one neighbour on one topic
pub record Concerns (c : Change) (p : PeerNo) (t : Topic) (step : TopicRules → Held → Held) : Type 0 where
  pub here : (r : TopicRules) (h : Held) → held_after r p t c h ≡ step r h
  pub others : (r : TopicRules) (q : PeerNo) (u : Topic) (h : Held) → same_pair p t q u ≡ false → held_after r q u c h ≡ h
  pub misbehaves : (d : Decay) (q : PeerNo) (x : ℕ) → misbehaved_after d q c x ≡ x
  pub addresses : (s : Setting) (H : History) → addresses_in s.neighbours (c ∷ H) ≡ addresses_in s.neighbours H
  pub decays : (H : History) → decays (c ∷ H) ≡ decays H

agrees_put_here : (setting : Setting) (k : Kept) (es : List (PeerNo × Account)) (H : History) (c : Change) (p : PeerNo) (t : Topic) (s : Standing) (step : TopicRules → Held → Held)
    → Concerns c p t step → Puts k.accounts es p t s
    → held (rules_of setting.params t) k.decays s ≡ step (rules_of setting.params t) (held (rules_of setting.params t) k.decays (standing_of k.accounts p t))
    → ((q : PeerNo) → IsOn (topics_of es q) (named (c ∷ H) q))
    → Agrees setting k H
    → Agrees setting (record k { accounts = es }) (c ∷ H)
agrees_put_here setting k es H c p t s step concerns puts there on a = record {
  params = a.params;
  neighbours = λ q. puts.accounts q ∙ a.neighbours q;
  decays = a.decays ∙ sym (concerns.decays H);
  holds = λ q u. elim (pairs_tell p t q u) [
    | inl e ↦ (
        let r = rules_of setting.params t in
        let at : held r k.decays (standing_of es p t) ≡ held_by setting.params (c ∷ H) p t
        = ap (held r k.decays) (puts.standings p t ∙ rw (pair_self p t) refl)
        ∙ there
        ∙ ap (step r) (a.holds p t)
        ∙ sym (concerns.here r (held_by setting.params H p t)) in
        subst (λ x. held_in setting.params k.decays (topics_of es x) u ≡ held_by setting.params (c ∷ H) x u) e.1
        (subst (λ y. held_in setting.params k.decays (topics_of es p) y ≡ held_by setting.params (c ∷ H) p y) e.2 at)
        )
    | inr e ↦ (
        ap (held (rules_of setting.params u) k.decays) (puts.standings q u ∙ rw e refl)
        ∙ a.holds q u
        ∙ sym (concerns.others (rules_of setting.params u) q u (held_by setting.params H q u) e)
        )
  ];
  misbehaves = λ q.
      ap (read_at (misbehaviour_decay setting.params) k.decays) (puts.misbehaviours q)
      ∙ a.misbehaves q
      ∙ sym (concerns.misbehaves (misbehaviour_decay setting.params) q (misbehaviour setting.params H q));
  knows = λ q. (on q).0;
  counts = λ q. (on q).1;
  addresses = a.addresses ∙ sym (concerns.addresses setting H);
}

pub agrees_put : (setting : Setting) (k new : Kept) (H : History) (c : Change) (p : PeerNo) (t : Topic) (s : Standing) (step : TopicRules → Held → Held)
    → Concerns c p t step → NamesTopic c p t → PutsIn k new p t s
    → held (rules_of k.params t) k.decays s ≡ step (rules_of k.params t) (held (rules_of k.params t) k.decays (standing_of k.accounts p t))
    → Agrees setting k H
    → Agrees setting new (c ∷ H)
agrees_put setting k new H c p t s step concerns names puts there a =
    subst (λ x. Agrees setting x (c ∷ H)) (sym puts.rest)
    (agrees_put_here setting k new.accounts H c p t s step concerns puts.puts
    (subst (λ (x : Params). held (rules_of x t) k.decays s ≡ step (rules_of x t) (held (rules_of x t) k.decays (standing_of k.accounts p t))) a.params there)
    (on_named k.accounts new.accounts H c p t names puts.adds (λ q. (a.knows q, a.counts q))) a)

pub concerns_graft : (p : PeerNo) (t : Topic) (now : Millis) → Concerns (Grafted p t now) p t (λ r h. record h { since = Some now })
concerns_graft p t now = record {
  here = λ r h. rw (pair_self p t) refl;
  others = λ r q u h e. rw e refl;
  misbehaves = λ d q x. refl;
  addresses = λ s H. refl;
  decays = λ H. refl;
}

pub graft_names : (p : PeerNo) (t : Topic) (now : Millis) → NamesTopic (Grafted p t now) p t
graft_names p t now q ts = refl

pub concerns_left : (p : PeerNo) (t : Topic) → Concerns (Left p t) p t (λ r h. record h { since = None })
concerns_left p t = record {
  here = λ r h. rw (pair_self p t) refl;
  others = λ r q u h e. rw e refl;
  misbehaves = λ d q x. refl;
  addresses = λ s H. refl;
  decays = λ H. refl;
}

pub agrees_left : (setting : Setting) (k : Kept) (es : List (PeerNo × Account)) (H : History) (p : PeerNo) (t : Topic)
    → Puts k.accounts es p t (pruned (standing_of k.accounts p t))
    → Keeps k.accounts es
    → Agrees setting k H
    → Agrees setting (record k { accounts = es }) (Left p t ∷ H)
agrees_left setting k es H p t puts keeps a =
    agrees_put_here setting k es H (Left p t) p t (pruned (standing_of k.accounts p t)) (λ r h. record h { since = None })
    (concerns_left p t) puts refl
    (λ q. on_same (topics_of k.accounts q) (topics_of es q) (named H q) (keeps q) (a.knows q, a.counts q)) a

-- one that raises a counter
pub concerns_raise : (m : Mark) (p : PeerNo) (t : Topic) (kind : Kind) (by : ℕ)
    → raise_of m ≡ Some (record { peer = p; topic = t; kind = kind; by = by })
    → blamed m ≡ None
    → Concerns (Marked m) p t (λ r h. raised_held r kind by h)
concerns_raise m p t kind by is none = record {
  here = λ r h.
      ap (λ (o : Option Raise). option_map_or (λ (x : Raise). cond (same_pair x.peer x.topic p t) (raised_held r x.kind x.by h) h) o h) is
      ∙ rw (pair_self p t) refl;
  others = λ r q u h e.
      ap (λ (o : Option Raise). option_map_or (λ (x : Raise). cond (same_pair x.peer x.topic q u) (raised_held r x.kind x.by h) h) o h) is
      ∙ rw e refl;
  misbehaves = λ d q x. ap (λ (o : Option PeerNo). option_map_or (λ y. cond (same_peer y q) (raised most_counted one x) x) o x) none;
  addresses = λ s H. refl;
  decays = λ H. refl;
}

raise_names : (m : Mark) (p : PeerNo) (t : Topic) (kind : Kind) (by : ℕ)
    → raise_of m ≡ Some (record { peer = p; topic = t; kind = kind; by = by })
    → NamesTopic (Marked m) p t
raise_names m p t kind by is q ts =
    ap (λ (o : Option Raise). option_map_or (λ (x : Raise). cond (same_peer x.peer q) (with_topic x.topic ts) ts) o ts) is

pub agrees_raise : (setting : Setting) (k new : Kept) (H : History) (m : Mark) (p : PeerNo) (t : Topic) (kind : Kind) (by : ℕ)
    → PutsIn k new p t (raised_standing (rules_of k.params t) kind by k.decays (standing_of k.accounts p t))
    → raise_of m ≡ Some (record { peer = p; topic = t; kind = kind; by = by })
    → blamed m ≡ None
    → Agrees setting k H
    → Agrees setting new (Marked m ∷ H)
agrees_raise setting k new H m p t kind by puts is none a =
    agrees_put setting k new H (Marked m) p t (raised_standing (rules_of k.params t) kind by k.decays (standing_of k.accounts p t))
    (λ r h. raised_held r kind by h) (concerns_raise m p t kind by is none) (raise_names m p t kind by is) puts
    (held-raised (rules_of k.params t) kind by k.decays (standing_of k.accounts p t)) a

pub agrees_decay : (setting : Setting) (k : Kept) (H : History) → IsSound k → Agrees setting k H → Agrees setting (record k { decays = k.decays + 1 }) (Decayed ∷ H)
agrees_decay setting k H sound a = record {
  params = a.params;
  neighbours = a.neighbours;
  decays = let is : k.decays + 1 ≡ suc k.decays = omega arith in is ∙ ap suc a.decays;
  holds = λ q u.
      held-later (rules_of setting.params u) k.decays (standing_of k.accounts q u) (sound.standings q u)
      ∙ ap (decayed_held (rules_of setting.params u)) (a.holds q u);
  misbehaves = λ q.
      read-later (misbehaviour_decay setting.params) (misbehaviour_of k.accounts q) k.decays 1 (sound.misbehaviours q)
      ∙ ap (decay_step (misbehaviour_decay setting.params)) (a.misbehaves q);
  knows = a.knows;
  counts = a.counts;
  addresses = a.addresses;
}

-- ---- scores

covers_same : (f g : Topic → Held) (ts : List Topic) → ((t : Topic) → f t ≡ g t) → Covers g ts → Covers f ts
covers_same f g ts e c = record { apart = c.apart; all = λ t none. e t ∙ c.all t none }

sums_same : (params : Params) (now : ℕ) (f g : Topic → Held) → ((t : Topic) → f t ≡ g t) → (ts : List Topic) → topic_sum params now f ts ≡ topic_sum params now g ts
sums_same params now f g e [] = refl
sums_same params now f g e (t ∷ ts) = ap₂ (λ x y. x +ℤ y) (ap (topic_part (rules_of params t) now) (e t)) (sums_same params now f g e ts)

-- what is made of the parts of a score as they are kept is what is made of them by the history
pub score_says : {X : Type 0} (f : Factors → ℤ → ℤ → ℕ → ℕ → X) (s : Setting) (k : Kept) (H : History) (p : PeerNo) (now : ℕ) (ts : List Topic) (sum : ℤ)
    → Agrees s k H
    → Covers (held_by s.params H p) ts
    → ((us : List Topic) → Covers (held_in k.params k.decays (topics_of k.accounts p)) us → sum ≡ topic_sum k.params now (held_in k.params k.decays (topics_of k.accounts p)) us)
    → f k.params.factors sum (app_of k.addresses p) (number_with k.addresses p) (read_at (misbehaviour_decay k.params) k.decays (misbehaviour_of k.accounts p))
    ≡ f s.params.factors (topic_sum s.params now (held_by s.params H p) ts) (app_of (addresses_in s.neighbours H) p) (number_with (addresses_in s.neighbours H) p) (misbehaviour s.params H p)
score_says f s k H p now ts sum a covers h =
    let T = topics_of k.accounts p in
    let at : Topic → Held = held_in s.params k.decays T in
    let by : Topic → Held = held_by s.params H p in
    let sums : sum ≡ topic_sum s.params now by ts
    = subst (λ (x : Params). (us : List Topic) → Covers (held_in x k.decays T) us → sum ≡ topic_sum x now (held_in x k.decays T) us) a.params h ts
    (covers_same at by ts (a.holds p) covers)
    ∙ sums_same s.params now at by (a.holds p) ts in
    ap (λ (x : Params). f x.factors sum (app_of k.addresses p) (number_with k.addresses p) (read_at (misbehaviour_decay x) k.decays (misbehaviour_of k.accounts p))) a.params
    ∙ ap (λ (x : ℤ). f s.params.factors x (app_of k.addresses p) (number_with k.addresses p) (read_at (misbehaviour_decay s.params) k.decays (misbehaviour_of k.accounts p))) sums
    ∙ ap (λ (x : List (PeerNo × AddressEntry)). f s.params.factors (topic_sum s.params now by ts) (app_of x p) (number_with x p) (read_at (misbehaviour_decay s.params) k.decays (misbehaviour_of k.accounts p))) a.addresses
    ∙ ap (λ (x : ℕ). f s.params.factors (topic_sum s.params now by ts) (app_of (addresses_in s.neighbours H) p) (number_with (addresses_in s.neighbours H) p) x) (a.misbehaves p)
