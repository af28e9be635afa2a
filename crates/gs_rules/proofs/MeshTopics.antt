-- The topics that have a mesh or a fanout are short, and ascend.
use Rattle.std.proofs.Common.{◌≡◌, ℕ, Bool, true, false, if◌then◌else◌, List, [], ◌∷◌, ◌++◌, filter, Option, Some, None, is_some, refl, sym, ap, subst, ◌∙◌}
use Rattle.std.specs.Prelude.{◌||◌}
use Rattle.std.specs.List.{AllByRecursion, list_any}
use Rattle.std.specs.List.Sorted.{IsStrictlySortedBy}
use Rattle.std.proofs.lemmas.Bool.{or_left}
use Rattle.std.proofs.lemmas.List.Folds.{list_any-append}
use Rattle.std.proofs.lemmas.List.Kept.{IsStrictlySortedBy-filter}
use Rattle.std.proofs.lemmas.Map.Views.{any-filter_same}
use Rattle.gs_base.specs.declared.names.Topic.{Topic}
use Rattle.gs_base.specs.declared.mark.Mark.{Mark}
use Rattle.gs_base.specs.declared.mark.Mark.TheVariants.{Published}
use Rattle.gs_base.specs.Names.{same_topic}
use Rattle.gs_rules.specs.declared.event.Event.{Event}
use Rattle.gs_rules.specs.declared.event.Event.TheVariants.{Step, Own}
use Rattle.gs_rules.specs.declared.event.BeatStep.TheVariants.{FanEnd}
use Rattle.gs_plan.specs.declared.plan.Act.TheVariants.{Publish, Subscribe}
use Rattle.gs_rules.specs.Peers.{Peer}
use Rattle.gs_rules.specs.Tables.{Entries, after_marks, joined, known, topic_order}
use Rattle.gs_rules.specs.Meshes.{dropped_after, ever_fanned, fanout_topics, has_fanout, has_mesh, last_published, mesh_topics, published_after}
use Rattle.gs_rules.specs.Gossip.{gossip}
use Rattle.gs_rules.specs.Owed.{gossip_topics, is_some_list, owed}
use Rattle.gs_rules.specs.Legal.{IsNext, Legal}
use Rattle.gs_rules.proofs.Each.{each_weaker}
use Rattle.gs_rules.proofs.Legality.{legal_newest}
use Rattle.gs_rules.proofs.Marks.{MayMark, Publishes}
use Rattle.gs_rules.proofs.EntryMarks.{entry_marks}
use Rattle.gs_rules.proofs.Owed.{opens}
use Rattle.gs_rules.proofs.Topics.{IsShort, ascending_any, ascending_are, ascending_sorted, joined_known, joined_short, passing_are, same_are_one}

-- ---- topics that were published on

-- where a mark says that the peer published on a topic, this is short
abbrev PublishesShort : Mark → Type 0
PublishesShort (Published t) = IsShort t
PublishesShort other = Unit {0}

publishes_short : (p : Peer) (L : Entries) (at : ℕ) (event : Event) (t : Topic) → IsNext p L at (owed p L).events event → Publishes event t → IsShort t
publishes_short p L at (Own (Publish u payload)) t next is = subst IsShort (sym is) (opens p L at (Own (Publish u payload)) (λ h. h) next).short
publishes_short p L at other t next is = absurd is

mark_short : (p : Peer) (L : Entries) (at : ℕ) (event : Event) → IsNext p L at (owed p L).events event → (mark : Mark) → MayMark p L at event mark → PublishesShort mark
mark_short p L at event next (Published t) may = publishes_short p L at event t next may
mark_short p L at event next other may = tt

published_by : (t u : Topic) (same : Bool) (at : ℕ) (before : Option ℕ) → same_topic u t ≡ same → IsShort u → (is_some before ≡ true → IsShort t) → is_some (if same then Some at else before) ≡ true → IsShort t
published_by t u true at before is short earlier some = subst IsShort (same_are_one u t is) short
published_by t u false at before is short earlier some = earlier some

marks_short : (t : Topic) (at : ℕ) (marks : List Mark) (before : Option ℕ) → AllByRecursion PublishesShort marks → (is_some before ≡ true → IsShort t) → is_some (after_marks (published_after t at) marks before) ≡ true → IsShort t
marks_short t at [] before all earlier some = earlier some
marks_short t at (Published u ∷ marks) before all earlier some =
    marks_short t at marks (published_after t at (Published u) before) all.1 (published_by t u (same_topic u t) at before refl all.0 earlier) some
marks_short t at (other ∷ marks) before all earlier some = marks_short t at marks before all.1 earlier some

-- what is dropped was there
was_there : (same : Bool) (before : Option ℕ) → is_some (if same then None else before) ≡ true → is_some before ≡ true
was_there true before some = absurd cc
was_there false before some = some

not_dropped : (t : Topic) (event : Event) (before : Option ℕ) → is_some (dropped_after t None event before) ≡ true → is_some before ≡ true
not_dropped t (Own (Subscribe u)) before some = was_there (same_topic u t) before some
not_dropped t (Step (FanEnd u)) before some = was_there (same_topic u t) before some
not_dropped t other before some = some

published_short : (p : Peer) (L : Entries) (t : Topic) → Legal p L → is_some (last_published L t) ≡ true → IsShort t
published_short p [] t legal some = absurd cc
published_short p (e ∷ L) t legal some =
    let newest = legal_newest p e L legal in
    marks_short t e.at.0 e.effects.marks (dropped_after t None e.event (last_published L t))
    (each_weaker (MayMark p L e.at.0 e.event) PublishesShort (mark_short p L e.at.0 e.event newest.next) e.effects.marks (entry_marks p L e.event e newest.effects))
    (λ there. published_short p L t legal.1 (not_dropped t e.event (last_published L t) there))
    some

-- ---- topics that have a mesh or a fanout

either_short : (p : Peer) (L : Entries) (t : Topic) → Legal p L → has_mesh L t ≡ true → IsShort t
either_short p L t legal has = by (joined L t) refl has
  where
    by : (joins : Bool) → joined L t ≡ joins → (joins || is_some (last_published L t)) ≡ true → IsShort t
    by true is has = joined_short p L t legal is
    by false is has = published_short p L t legal has

pub mesh_topics_short : (p : Peer) (L : Entries) → Legal p L → AllByRecursion IsShort (mesh_topics L)
mesh_topics_short p L legal =
    let all : List Topic = known L ++ ever_fanned L in
    ascending_are IsShort (filter (has_mesh L) all) (passing_are IsShort (has_mesh L) all (λ t has. either_short p L t legal has))

-- those that are joined are among them
pub joined_has_mesh : (L : Entries) (t : Topic) → joined L t ≡ true → list_any (same_topic t) (mesh_topics L) ≡ true
joined_has_mesh L t joins =
    let all : List Topic = known L ++ ever_fanned L in
    let here : has_mesh L t ≡ true = or_left (joined L t) (is_some (last_published L t)) joins in
    ascending_any t (filter (has_mesh L) all)
    ∙ any-filter_same (same_topic t) (has_mesh L) true (λ u is. ap (has_mesh L) (sym (same_are_one t u is)) ∙ here) all
    ∙ list_any-append (same_topic t) (known L) (ever_fanned L)
    ∙ or_left (list_any (same_topic t) (known L)) (list_any (same_topic t) (ever_fanned L)) (joined_known L t joins)

-- ---- they ascend, and so do those of them that pass a test

mesh_topics_ascend : (L : Entries) → IsStrictlySortedBy topic_order (mesh_topics L)
mesh_topics_ascend L = ascending_sorted (filter (has_mesh L) (known L ++ ever_fanned L))

pub fanout_topics_ascend : (L : Entries) → IsStrictlySortedBy topic_order (fanout_topics L)
fanout_topics_ascend L = IsStrictlySortedBy-filter topic_order (has_fanout L) (mesh_topics L) (mesh_topics_ascend L)

pub gossip_topics_ascend : (p : Peer) (L : Entries) → IsStrictlySortedBy topic_order (gossip_topics p L)
gossip_topics_ascend p L = IsStrictlySortedBy-filter topic_order (λ (t : Topic). is_some_list (gossip p L t)) (mesh_topics L) (mesh_topics_ascend L)
