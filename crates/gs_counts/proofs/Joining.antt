-- The topics that a peer is subscribed to are those that its trace has as joined.
use Rattle.std.proofs.Common.{◌≡◌, ℕ, Bool, true, false, not, if◌then◌else◌, List, [], ◌∷◌, ◌++◌, filter, refl, sym, ap, ◌∙◌}
use Rattle.std.specs.Prelude.{◌||◌}
use Rattle.std.specs.List.{list_any}
use Rattle.std.proofs.lemmas.Cmp.{nat_list_eq_equiv}
use Rattle.std.proofs.lemmas.Slice.Eq.{bytes_eq-Decides}
use Rattle.std.proofs.lemmas.List.Folds.{list_any-append}
use Rattle.gs_base.specs.declared.names.Topic.{Topic}
use Rattle.gs_base.specs.Names.{same_topic}
use Rattle.gs_rules.specs.declared.event.Event.{Event}
use Rattle.gs_rules.specs.declared.event.Event.TheVariants.{Own}
use Rattle.gs_plan.specs.declared.plan.Act.{Act}
use Rattle.gs_plan.specs.declared.plan.Act.TheVariants.{Subscribe, Unsubscribe, Publish, Raw, HangUp}
use Rattle.gs_rules.specs.Tables.{Entries, joined, joined_after, joined_by}
use Rattle.gs_counts.specs.Topics.{act_subscribed, subscribed, subscribed_after}

-- topics of the same bytes are one
same_are_one : (t u : Topic) → same_topic t u ≡ true → t ≡ u
same_are_one t u is = ap (λ (bytes : List ℕ). record { 0 = bytes }) ((bytes_eq-Decides t.0 u.0).0 is)

or_true : (b : Bool) → (b || true) ≡ true
or_true true = refl
or_true false = refl

or_false : (b : Bool) → (b || false) ≡ b
or_false true = refl
or_false false = refl

-- ---- one more

-- a topic that the peer subscribes to, unless it is subscribed
abbrev listed_once : Topic → List Topic → List Topic
listed_once u ts = if list_any (same_topic u) ts then ts else ts ++ u ∷ []

is_listed : (t u : Topic) (ts : List Topic) → same_topic u t ≡ true → list_any (same_topic t) (listed_once u ts) ≡ true
is_listed t u ts same = by (list_any (same_topic u) ts) refl
  where
    by : (b : Bool) → list_any (same_topic u) ts ≡ b → list_any (same_topic t) (if b then ts else ts ++ u ∷ []) ≡ true
    by true listed = ap (λ (v : Topic). list_any (same_topic v) ts) (sym (same_are_one u t same)) ∙ listed
    by false listed =
        list_any-append (same_topic t) ts (u ∷ [])
        ∙ ap (λ (b : Bool). list_any (same_topic t) ts || (b || false)) (sym (nat_list_eq_equiv.symm u.0 t.0) ∙ same)
        ∙ or_true (list_any (same_topic t) ts)

listed_as_before : (t u : Topic) (ts : List Topic) → same_topic u t ≡ false → list_any (same_topic t) (listed_once u ts) ≡ list_any (same_topic t) ts
listed_as_before t u ts other = by (list_any (same_topic u) ts)
  where
    by : (b : Bool) → list_any (same_topic t) (if b then ts else ts ++ u ∷ []) ≡ list_any (same_topic t) ts
    by true = refl
    by false =
        list_any-append (same_topic t) ts (u ∷ [])
        ∙ ap (λ (b : Bool). list_any (same_topic t) ts || (b || false)) (sym (nat_list_eq_equiv.symm u.0 t.0) ∙ other)
        ∙ or_false (list_any (same_topic t) ts)

-- ---- one less

abbrev all_but : Topic → List Topic → List Topic
all_but u ts = filter (λ v. not (same_topic u v)) ts

is_gone : (t u : Topic) (ts : List Topic) → same_topic u t ≡ true → list_any (same_topic t) (all_but u ts) ≡ false
is_gone t u [] same = refl
is_gone t u (v ∷ vs) same = by (same_topic u v) refl (is_gone t u vs same)
  where
    by : (b : Bool) → same_topic u v ≡ b → list_any (same_topic t) (all_but u vs) ≡ false → list_any (same_topic t) (if not b then v ∷ all_but u vs else all_but u vs) ≡ false
    by true is rest = rest
    by false is rest =
        ap (λ (b : Bool). b || list_any (same_topic t) (all_but u vs)) (ap (λ (w : Topic). same_topic w v) (sym (same_are_one u t same)) ∙ is)
        ∙ rest

others_stay : (t u : Topic) (ts : List Topic) → same_topic u t ≡ false → list_any (same_topic t) (all_but u ts) ≡ list_any (same_topic t) ts
others_stay t u [] other = refl
others_stay t u (v ∷ vs) other = by (same_topic u v) refl (others_stay t u vs other)
  where
    by : (b : Bool) → same_topic u v ≡ b → list_any (same_topic t) (all_but u vs) ≡ list_any (same_topic t) vs → list_any (same_topic t) (if not b then v ∷ all_but u vs else all_but u vs) ≡ (same_topic t v || list_any (same_topic t) vs)
    by true is rest =
        rest
        ∙ sym (ap (λ (b : Bool). b || list_any (same_topic t) vs) (ap (λ (w : Topic). same_topic t w) (sym (same_are_one u v is)) ∙ (sym (nat_list_eq_equiv.symm u.0 t.0) ∙ other)))
    by false is rest = ap (λ (b : Bool). same_topic t v || b) rest

-- ---- a trace

pub subscribed_are_joined : (t : Topic) (L : Entries) → list_any (same_topic t) (subscribed L) ≡ joined L t
subscribed_are_joined t [] = refl
subscribed_are_joined t (e ∷ L) = by e.event (subscribed_are_joined t L)
  where
    comes : (u : Topic) (b : Bool) → same_topic u t ≡ b → list_any (same_topic t) (subscribed L) ≡ joined L t → list_any (same_topic t) (listed_once u (subscribed L)) ≡ (if b then true else joined L t)
    comes u true same is = is_listed t u (subscribed L) same
    comes u false same is = listed_as_before t u (subscribed L) same ∙ is

    goes : (u : Topic) (b : Bool) → same_topic u t ≡ b → list_any (same_topic t) (subscribed L) ≡ joined L t → list_any (same_topic t) (all_but u (subscribed L)) ≡ (if b then false else joined L t)
    goes u true same is = is_gone t u (subscribed L) same
    goes u false same is = others_stay t u (subscribed L) same ∙ is

    acts : (act : Act) → list_any (same_topic t) (subscribed L) ≡ joined L t → list_any (same_topic t) (act_subscribed act (subscribed L)) ≡ joined_by t act (joined L t)
    acts (Subscribe u) is = comes u (same_topic u t) refl is
    acts (Unsubscribe u) is = goes u (same_topic u t) refl is
    acts (Publish u payload) is = is
    acts (Raw q bytes) is = is
    acts (HangUp q) is = is

    by : (event : Event) → list_any (same_topic t) (subscribed L) ≡ joined L t → list_any (same_topic t) (subscribed_after event (subscribed L)) ≡ joined_after t event (joined L t)
    by (Own act) is = acts act is
    by other is = is
