-- A router's tables after one more entry.
use Rattle.std.proofs.Common.{◌≡◌, ℕ, ◌+◌, Bool, true, false, cond, List, [], ◌∷◌, ◌++◌, length, Option, None, Some, refl, sym, ap, ap₂, ◌∙◌, if◌then◌else◌, length-append, is_some, unwrap_or, arith}
use Rattle.std.specs.Prelude.{◌||◌, ◌&&◌}
use Rattle.std.specs.List.{list_any}
use Rattle.std.specs.Map.{lookup}
use Rattle.std.specs.Ordering.{is_eq}
use Rattle.std.proofs.lemmas.Cmp.{nat_list_eq_equiv}
use Rattle.std.proofs.lemmas.List.Folds.{list_any-append}
use Rattle.std.proofs.lemmas.Map.Text.{is_eq-slice_cmp}
use Rattle.std.proofs.lemmas.Slice.Eq.{bytes_eq-Decides}
use Rattle.gs_base.specs.declared.names.PeerNo.{PeerNo}
use Rattle.gs_base.specs.declared.names.Topic.{Topic}
use Rattle.gs_base.specs.Names.{same_peer, same_topic}
use Rattle.gs_rules.specs.declared.event.Event.{Event}
use Rattle.gs_rules.specs.declared.event.Event.TheVariants.{Own}
use Rattle.gs_plan.specs.declared.plan.Act.TheVariants.{Subscribe, Unsubscribe}
use Rattle.gs_rules.specs.declared.trace.Entry.{Entry}
use Rattle.gs_rules.specs.Tables.{Entries, joined, joined_after, known, known_after, topic_order}
use Rattle.gs_router.specs.declared.peer_set.PeerSet.{PeerSet}
use Rattle.gs_router.specs.declared.tables.own_topics.OwnTopics.{OwnTopics}
use Rattle.gs_router.specs.declared.tables.listeners.Listeners.{Listeners}
use Rattle.gs_router.specs.PeerSets.{has}
use Rattle.gs_router.specs.Tables.{AgreesOnTopics, kept_topic, listens, is_in}

-- ---- topics

pub or_true : (b : Bool) → (b || (true || false)) ≡ true
or_true true = refl
or_true false = refl

pub or_false : (b : Bool) → (b || (false || false)) ≡ b
or_false true = refl
or_false false = refl

any_same : (known : List Topic) (topic t : Topic) → same_topic topic t ≡ true → list_any (same_topic topic) known ≡ list_any (same_topic t) known
any_same [] topic t is = refl
any_same (u ∷ known) topic t is = ap₂ (λ (x y : Bool). x || y) (nat_list_eq_equiv.congr topic.0 t.0 u.0 is) (any_same known topic t is)

-- a topic that takes a value among those that were known
one_known : (before : Option Bool) (known : List Topic) (topic t : Topic) (b c : Bool) → list_any (same_topic topic) known ≡ c → is_some before ≡ list_any (same_topic t) known
    → is_some (cond (same_topic topic t) (Some b) before) ≡ list_any (same_topic t) (if c then known else known ++ topic ∷ [])
one_known was known topic t b true there before = by (same_topic topic t) refl
  where
    by : (same : Bool) → same_topic topic t ≡ same → is_some (cond same (Some b) was) ≡ list_any (same_topic t) known
    by true is = sym there ∙ any_same known topic t is
    by false is = before
one_known was known topic t b false apart before = by (same_topic topic t) (nat_list_eq_equiv.symm topic.0 t.0)
  where
    last : list_any (same_topic t) (known ++ topic ∷ []) ≡ (list_any (same_topic t) known || (same_topic t topic || false))
    last = list_any-append (same_topic t) known (topic ∷ [])

    by : (same : Bool) → same ≡ same_topic t topic → is_some (cond same (Some b) was) ≡ list_any (same_topic t) (known ++ topic ∷ [])
    by true is = sym (last ∙ ap (λ (same : Bool). list_any (same_topic t) known || (same || false)) (sym is) ∙ or_true (list_any (same_topic t) known))
    by false is = before ∙ sym (last ∙ ap (λ (same : Bool). list_any (same_topic t) known || (same || false)) (sym is) ∙ or_false (list_any (same_topic t) known))

-- a topic that is new is one more of the known ones
one_counted : (known : List Topic) (topic : Topic) (n : ℕ) (c : Bool) → n ≡ length known → n + (if c then 0 else 1) ≡ length (if c then known else known ++ topic ∷ [])
one_counted known topic n true is = omega (arith, is)
one_counted known topic n false is = omega (arith, is, length-append known (topic ∷ []))

-- what the topics are after one takes a value
pub record Takes (old new : OwnTopics) (topic : Topic) (b : Bool) : Type 0 where
  pub before : Option Bool
  pub was : before ≡ kept_topic old topic
  pub orders : (t : Topic) → kept_topic new t ≡ cond (is_eq (topic_order topic t)) (Some b) (kept_topic old t)
  pub len : length new.topics.entries ≡ length old.topics.entries + (if is_some before then 0 else 1)

-- topics are equal in their order where their bytes are
pub same_order : (t u : Topic) → is_eq (topic_order t u) ≡ same_topic t u
same_order t u = is_eq-slice_cmp t.0 u.0

takes_so : (old new : OwnTopics) (topic : Topic) (b : Bool) → Takes old new topic b → (t : Topic) → kept_topic new t ≡ cond (same_topic topic t) (Some b) (kept_topic old t)
takes_so old new topic b takes t = takes.orders t ∙ ap (λ (same : Bool). cond same (Some b) (kept_topic old t)) (same_order topic t)

cond_value : (b c : Bool) (before : Option Bool) → unwrap_or (cond c (Some b) before) false ≡ (if c then b else unwrap_or before false)
cond_value b true before = refl
cond_value b false before = refl

pub subscribes : (old new : OwnTopics) (topic : Topic) (L : Entries) (e : Entry) → Takes old new topic true → e.event ≡ Own (Subscribe topic) → AgreesOnTopics old L → AgreesOnTopics new (e ∷ L)
subscribes old new topic L e takes is agrees =
    let there : list_any (same_topic topic) (known L) ≡ is_some takes.before = sym (agrees.knows topic) ∙ sym (ap is_some takes.was) in
    let knew : known (e ∷ L) ≡ (if is_some takes.before then known L else known L ++ topic ∷ []) =
    ap (λ (ev : Event). known_after ev (known L)) is ∙ ap (λ (c : Bool). if c then known L else known L ++ topic ∷ []) there in
    record {
      knows = λ t. ap is_some (takes_so old new topic true takes t) ∙ one_known (kept_topic old t) (known L) topic t true (is_some takes.before) there (agrees.knows t) ∙ sym (ap (list_any (same_topic t)) knew);
      counts = takes.len ∙ one_counted (known L) topic (length old.topics.entries) (is_some takes.before) agrees.counts ∙ sym (ap length knew);
      joins = λ t. ap (λ (o : Option Bool). unwrap_or o false) (takes_so old new topic true takes t) ∙ cond_value true (same_topic topic t) (kept_topic old t) ∙ ap (λ (b : Bool). if same_topic topic t then true else b) (agrees.joins t) ∙ sym (ap (λ (ev : Event). joined_after t ev (joined L t)) is);
    }

-- a topic that was known is left
pub unsubscribes : (old new : OwnTopics) (topic : Topic) (L : Entries) (e : Entry) → Takes old new topic false → is_some (kept_topic old topic) ≡ true → e.event ≡ Own (Unsubscribe topic) → AgreesOnTopics old L → AgreesOnTopics new (e ∷ L)
unsubscribes old new topic L e takes has is agrees =
    let some : is_some takes.before ≡ true = ap is_some takes.was ∙ has in
    let there : list_any (same_topic topic) (known L) ≡ true = sym (agrees.knows topic) ∙ has in
    let knew : known (e ∷ L) ≡ known L = ap (λ (ev : Event). known_after ev (known L)) is in
    record {
      knows = λ t. ap is_some (takes_so old new topic false takes t) ∙ one_known (kept_topic old t) (known L) topic t false true there (agrees.knows t) ∙ sym (ap (list_any (same_topic t)) knew);
      counts = takes.len ∙ ap (λ (c : Bool). length old.topics.entries + (if c then 0 else 1)) some ∙ one_counted (known L) topic (length old.topics.entries) true agrees.counts ∙ sym (ap length knew);
      joins = λ t. ap (λ (o : Option Bool). unwrap_or o false) (takes_so old new topic false takes t) ∙ cond_value false (same_topic topic t) (kept_topic old t) ∙ ap (λ (b : Bool). if same_topic topic t then false else b) (agrees.joins t) ∙ sym (ap (λ (ev : Event). joined_after t ev (joined L t)) is);
    }

-- ---- what neighbours say

none_at : (kept : Listeners) (topic t : Topic) → same_topic topic t ≡ true → None ≡ lookup (same_topic topic) kept.topics.entries → None ≡ lookup (same_topic t) kept.topics.entries
none_at kept topic t same none =
    none ∙ ap (λ (bytes : List ℕ). lookup (same_topic (record { 0 = bytes })) kept.topics.entries) ((bytes_eq-Decides topic.0 t.0).0 same)

-- a set of its own for a topic that nobody spoke of
pub speaks_first : (old new : Listeners) (topic t : Topic) (peer q : PeerNo) (b : Bool) (set : PeerSet)
    → None ≡ lookup (same_topic topic) old.topics.entries
    → lookup (same_topic t) new.topics.entries ≡ cond (same_topic topic t) (Some set) (lookup (same_topic t) old.topics.entries)
    → has set q ≡ (if same_peer peer q then b else false)
    → listens new q t ≡ (if same_peer peer q && same_topic topic t then b else listens old q t)
speaks_first old new topic t peer q b set none updates holds = ap (is_in q) updates ∙ by (same_topic topic t) refl (same_peer peer q) refl
  where
    by : (same : Bool) → same_topic topic t ≡ same → (mine : Bool) → same_peer peer q ≡ mine → is_in q (cond same (Some set) (lookup (same_topic t) old.topics.entries)) ≡ (if mine && same then b else listens old q t)
    by true is true mine = holds ∙ ap (λ (m : Bool). if m then b else false) mine
    by true is false mine = holds ∙ ap (λ (m : Bool). if m then b else false) mine ∙ ap (is_in q) (none_at old topic t is none)
    by false is true mine = refl
    by false is false mine = refl
