-- The topics that a history names leave none out.
use Rattle.std.proofs.Common.{◌≡◌, inl, inr, Bool, true, false, cond, List, Option, Some, None, refl, sym, ap, subst, ◌∙◌}
use Rattle.std.specs.Prelude.{[], ◌∷◌, ◌&&◌}
use Rattle.std.specs.Option.{option_map_or}
use Rattle.std.specs.List.{list_any, AllByRecursion, IsDistinct}
use Rattle.gs_base.specs.declared.names.PeerNo.{PeerNo}
use Rattle.gs_base.specs.declared.names.Topic.{Topic}
use Rattle.gs_base.specs.Names.{same_peer, same_topic}
use Rattle.gs_params.specs.declared.params.Params.{Params}
use Rattle.gs_score.specs.declared.rules.TopicRules.{TopicRules}
use Rattle.gs_score.specs.declared.standing.Kind.TheVariants.{First, Near, Deficit, Invalid}
use Rattle.gs_score.specs.Standings.{Held, decay_of, decayed_held, nothing_held, raised_held}
use Rattle.gs_score.specs.Accounts.{Covers, rules_of}
use Rattle.gs_score.specs.Ledgers.{same_pair}
use Rattle.gs_score.specs.Histories.{Decayed, Grafted, History, Left, Marked, Raise, ShutOut, held_by, named, named_after, raise_of, with_topic}
use Rattle.gs_score.proofs.Sums.{either_false, step_of_nothing, topics_tell}

-- ---- each once

pub all_other : (t : Topic) (ts : List Topic) → list_any (same_topic t) ts ≡ false → AllByRecursion (λ u. same_topic t u ≡ false) ts
all_other t [] h = tt
all_other t (u ∷ ts) h =
    let two = either_false (same_topic t u) (list_any (same_topic t) ts) h in
    (two.0, all_other t ts two.1)

distinct_with : (t : Topic) (ts : List Topic) → IsDistinct same_topic ts → IsDistinct same_topic (with_topic t ts)
unfolding IsDistinct
distinct_with t ts d = by (list_any (same_topic t) ts) refl
  where
    by : (b : Bool) → list_any (same_topic t) ts ≡ b → IsDistinct same_topic (cond b ts (t ∷ ts))
    by true e = d
    by false e = (all_other t ts e, d)

distinct_if : (b : Bool) (t : Topic) (ts : List Topic) → IsDistinct same_topic ts → IsDistinct same_topic (cond b (with_topic t ts) ts)
distinct_if true t ts d = distinct_with t ts d
distinct_if false t ts d = d

distinct_raise : (q : PeerNo) (o : Option Raise) (ts : List Topic) → IsDistinct same_topic ts → IsDistinct same_topic (option_map_or (λ (x : Raise). cond (same_peer x.peer q) (with_topic x.topic ts) ts) o ts)
distinct_raise q None ts d = d
distinct_raise q (Some x) ts d = distinct_if (same_peer x.peer q) x.topic ts d

pub distinct_none : IsDistinct same_topic []
unfolding IsDistinct
distinct_none = tt

pub named_apart : (H : History) (q : PeerNo) → IsDistinct same_topic (named H q)
named_apart [] q = distinct_none
named_apart (Marked m ∷ H) q = distinct_raise q (raise_of m) (named H q) (named_apart H q)
named_apart (Decayed ∷ H) q = named_apart H q
named_apart (Grafted p u at ∷ H) q = distinct_if (same_peer p q) u (named H q) (named_apart H q)
named_apart (Left p u ∷ H) q = named_apart H q
named_apart (ShutOut p ∷ H) q = named_apart H q

-- ---- none left out

other_back : (x t : Topic) → same_topic t x ≡ false → same_topic x t ≡ false
other_back x t h =
    elim (topics_tell x t) [
      | inl e ↦ (
          let self : same_topic x x ≡ true = subst (λ y. same_topic x y ≡ true) (sym e.1) e.0 in
          let here : same_topic t x ≡ true = subst (λ y. same_topic y x ≡ true) e.1 self in
          e.0 ∙ sym here ∙ h
          )
      | inr e ↦ e.0
    ]

out_with : (x t : Topic) (ts : List Topic) → list_any (same_topic t) (with_topic x ts) ≡ false → (list_any (same_topic t) ts ≡ false) × (same_topic x t ≡ false)
out_with x t ts h = by (list_any (same_topic x) ts) refl h
  where
    by : (b : Bool) → list_any (same_topic x) ts ≡ b → list_any (same_topic t) (cond b ts (x ∷ ts)) ≡ false → (list_any (same_topic t) ts ≡ false) × (same_topic x t ≡ false)
    by true e n = (
      n,
      elim (topics_tell x t) [
        | inl f ↦ f.0 ∙ sym e ∙ ap (λ y. list_any (same_topic y) ts) f.1 ∙ n
        | inr f ↦ f.0
      ],
    )
    by false e n =
        let two = either_false (same_topic t x) (list_any (same_topic t) ts) n in
        (two.1, other_back x t two.0)

out : (b : Bool) (x t : Topic) (ts : List Topic) → list_any (same_topic t) (cond b (with_topic x ts) ts) ≡ false → (list_any (same_topic t) ts ≡ false) × ((b && same_topic x t) ≡ false)
out true x t ts h = out_with x t ts h
out false x t ts h = (h, refl)

nothing_decays : (r : TopicRules) → decayed_held r nothing_held ≡ nothing_held
nothing_decays r =
    rw (step_of_nothing (decay_of r First), step_of_nothing (decay_of r Near), step_of_nothing (decay_of r Deficit), step_of_nothing (decay_of r Invalid))
    refl

out_raise : (r : TopicRules) (q : PeerNo) (t : Topic) (o : Option Raise) (ts : List Topic) (h : Held)
    → (list_any (same_topic t) ts ≡ false → h ≡ nothing_held)
    → list_any (same_topic t) (option_map_or (λ (x : Raise). cond (same_peer x.peer q) (with_topic x.topic ts) ts) o ts) ≡ false
    → option_map_or (λ (x : Raise). cond (same_pair x.peer x.topic q t) (raised_held r x.kind x.by h) h) o h ≡ nothing_held
out_raise r q t None ts h none n = none n
out_raise r q t (Some x) ts h none n =
    let two = out (same_peer x.peer q) x.topic t ts n in
    rw two.1 (none two.0)

named_all : (params : Params) (H : History) (q : PeerNo) (t : Topic) → list_any (same_topic t) (named H q) ≡ false → held_by params H q t ≡ nothing_held
named_all params [] q t n = refl
named_all params (Marked m ∷ H) q t n =
    out_raise (rules_of params t) q t (raise_of m) (named H q) (held_by params H q t) (named_all params H q t) n
named_all params (Decayed ∷ H) q t n =
    ap (decayed_held (rules_of params t)) (named_all params H q t n) ∙ nothing_decays (rules_of params t)
named_all params (Grafted p u at ∷ H) q t n =
    let two = out (same_peer p q) u t (named H q) n in
    rw two.1 (named_all params H q t two.0)
named_all params (Left p u ∷ H) q t n = left (same_pair p u q t) (held_by params H q t) (named_all params H q t n)
  where
    left : (b : Bool) (h : Held) → h ≡ nothing_held → cond b (record h { since = None }) h ≡ nothing_held
    left true h e = ap (λ (x : Held). record x { since = None }) e
    left false h e = e
named_all params (ShutOut p ∷ H) q t n = named_all params H q t n

pub named_covers : (params : Params) (H : History) (q : PeerNo) → Covers (held_by params H q) (named H q)
named_covers params H q = record { apart = named_apart H q; all = named_all params H q }

-- ---- what changes name

all_with : (P : Topic → Type 0) (t : Topic) (ts : List Topic) → P t → AllByRecursion P ts → AllByRecursion P (with_topic t ts)
all_with P t ts here all = by (list_any (same_topic t) ts)
  where
    by : (b : Bool) → AllByRecursion P (cond b ts (t ∷ ts))
    by true = all
    by false = (here, all)

all_if : (P : Topic → Type 0) (b : Bool) (t : Topic) (ts : List Topic) → AllByRecursion P (cond b (with_topic t []) []) → AllByRecursion P ts → AllByRecursion P (cond b (with_topic t ts) ts)
all_if P true t ts h all = all_with P t ts h.0 all
all_if P false t ts h all = all

all_raise : (P : Topic → Type 0) (q : PeerNo) (o : Option Raise) (ts : List Topic)
    → AllByRecursion P (option_map_or (λ (x : Raise). cond (same_peer x.peer q) (with_topic x.topic []) []) o [])
    → AllByRecursion P ts
    → AllByRecursion P (option_map_or (λ (x : Raise). cond (same_peer x.peer q) (with_topic x.topic ts) ts) o ts)
all_raise P q None ts h all = all
all_raise P q (Some x) ts h all = all_if P (same_peer x.peer q) x.topic ts h all

pub named_by_changes : (P : Topic → Type 0) (H : History) (q : PeerNo) → AllByRecursion (λ c. AllByRecursion P (named_after q c [])) H → AllByRecursion P (named H q)
named_by_changes P [] q h = tt
named_by_changes P (Marked m ∷ H) q h = all_raise P q (raise_of m) (named H q) h.0 (named_by_changes P H q h.1)
named_by_changes P (Decayed ∷ H) q h = named_by_changes P H q h.1
named_by_changes P (Grafted p u at ∷ H) q h = all_if P (same_peer p q) u (named H q) h.0 (named_by_changes P H q h.1)
named_by_changes P (Left p u ∷ H) q h = named_by_changes P H q h.1
named_by_changes P (ShutOut p ∷ H) q h = named_by_changes P H q h.1
