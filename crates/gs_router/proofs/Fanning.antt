-- The table of topics that have a mesh or a fanout, after events and marks, and that a trace lists each of them.
use Rattle.std.proofs.Common.{◌≡◌, ◌<◌, ◌+◌, ℕ, Bool, true, false, if◌then◌else◌, cond, List, [], ◌∷◌, ◌++◌, Option, None, Some, is_some, unwrap_or, length, take, get_or, refl, sym, ap, subst, ◌∙◌}
use Rattle.std.specs.Prelude.{◌||◌, ◌&&◌}
use Rattle.std.specs.List.{list_any}
use Rattle.std.specs.Map.{lookup}
use Rattle.std.specs.Ordering.{is_eq}
use Rattle.std.proofs.lemmas.Cmp.{nat_list_eq_equiv}
use Rattle.std.proofs.lemmas.Slice.Eq.{bytes_eq-Decides}
use Rattle.std.proofs.lemmas.List.{take_more}
use Rattle.std.proofs.lemmas.List.Folds.{list_any-append}
use Rattle.gs_base.specs.declared.names.Topic.{Topic}
use Rattle.gs_base.specs.declared.mark.Mark.{Mark}
use Rattle.gs_base.specs.declared.mark.Mark.TheVariants.{Published}
use Rattle.gs_base.specs.Names.{same_topic}
use Rattle.gs_rules.specs.declared.event.Event.{Event}
use Rattle.gs_rules.specs.declared.event.Event.TheVariants.{Step, Own}
use Rattle.gs_rules.specs.declared.event.BeatStep.TheVariants.{FanEnd}
use Rattle.gs_plan.specs.declared.plan.Act.TheVariants.{Subscribe, Unsubscribe}
use Rattle.gs_rules.specs.declared.trace.Entry.{Entry}
use Rattle.gs_rules.specs.Tables.{Entries, after_marks, joined, joined_after, known, known_after, topic_order}
use Rattle.gs_rules.specs.Meshes.{dropped_after, ever_fanned, fanned_topics_after, has_mesh, last_published, published_after}
use Rattle.gs_router.specs.declared.tables.mesh_topics.MeshOrFanout.{MeshOrFanout}
use Rattle.gs_router.specs.declared.tables.mesh_topics.MeshTopics.{MeshTopics}
use Rattle.gs_router.specs.Tables.{AgreesOnMeshTopics, HasTopics, dropped_by, fanned_by, neither_mesh_nor_fanout}
use Rattle.gs_router.proofs.Keeping.{marks_more}
use Rattle.gs_router.proofs.Noting.{or_true, same_order}

-- topics of the same bytes are one
same_are_one : (t u : Topic) → same_topic t u ≡ true → t ≡ u
same_are_one t u is = ap (λ (bytes : List ℕ). record { 0 = bytes }) ((bytes_eq-Decides t.0 u.0).0 is)

-- ---- each is listed

-- a topic that is listed anew, unless it is listed
abbrev listed_once : Topic → List Topic → List Topic
listed_once u ts = if list_any (same_topic u) ts then ts else ts ++ u ∷ []

still_listed : (q u : Topic) (ts : List Topic) → list_any (same_topic q) ts ≡ true → list_any (same_topic q) (listed_once u ts) ≡ true
still_listed q u ts is = by (list_any (same_topic u) ts)
  where
    by : (b : Bool) → list_any (same_topic q) (if b then ts else ts ++ u ∷ []) ≡ true
    by true = is
    by false = list_any-append (same_topic q) ts (u ∷ []) ∙ ap (λ (b : Bool). b || (same_topic q u || false)) is

now_listed : (q u : Topic) (ts : List Topic) → same_topic u q ≡ true → list_any (same_topic q) (listed_once u ts) ≡ true
now_listed q u ts is = by (list_any (same_topic u) ts) refl
  where
    by : (b : Bool) → list_any (same_topic u) ts ≡ b → list_any (same_topic q) (if b then ts else ts ++ u ∷ []) ≡ true
    by true listed = ap (λ (v : Topic). list_any (same_topic v) ts) (sym (same_are_one u q is)) ∙ listed
    by false listed =
        list_any-append (same_topic q) ts (u ∷ [])
        ∙ ap (λ (b : Bool). list_any (same_topic q) ts || (b || false)) (sym (nat_list_eq_equiv.symm u.0 q.0) ∙ is)
        ∙ or_true (list_any (same_topic q) ts)

-- a topic that the peer is subscribed to is known
joined_is_known : (L : Entries) (q : Topic) → joined L q ≡ true → list_any (same_topic q) (known L) ≡ true
joined_is_known [] q is = absurd cc
joined_is_known (e ∷ L) q is = by e.event (joined_is_known L q) is
  where
    subscribed : (u : Topic) (b : Bool) → same_topic u q ≡ b → (joined L q ≡ true → list_any (same_topic q) (known L) ≡ true) → (if b then true else joined L q) ≡ true → list_any (same_topic q) (listed_once u (known L)) ≡ true
    subscribed u true same rest is = now_listed q u (known L) same
    subscribed u false same rest is = still_listed q u (known L) (rest is)

    left : (b : Bool) → (joined L q ≡ true → list_any (same_topic q) (known L) ≡ true) → (if b then false else joined L q) ≡ true → list_any (same_topic q) (known L) ≡ true
    left true rest is = absurd cc
    left false rest is = rest is

    by : (event : Event) → (joined L q ≡ true → list_any (same_topic q) (known L) ≡ true) → joined_after q event (joined L q) ≡ true → list_any (same_topic q) (known_after event (known L)) ≡ true
    by (Own (Subscribe u)) rest is = subscribed u (same_topic u q) refl rest is
    by (Own (Unsubscribe u)) rest is = left (same_topic u q) rest is
    by other rest is = rest is

-- and one on which it published is among those on which it ever did
marks_list : (q : Topic) (at : ℕ) (marks : List Mark) (o : Option ℕ) (ts : List Topic) → (is_some o ≡ true → list_any (same_topic q) ts ≡ true)
    → is_some (after_marks (published_after q at) marks o) ≡ true → list_any (same_topic q) (after_marks fanned_topics_after marks ts) ≡ true
marks_list q at [] o ts listed is = listed is
marks_list q at (Published u ∷ marks) o ts listed is = marks_list q at marks (if same_topic u q then Some at else o) (listed_once u ts) (by (same_topic u q) refl) is
  where
    by : (b : Bool) → same_topic u q ≡ b → is_some (if b then Some at else o) ≡ true → list_any (same_topic q) (listed_once u ts) ≡ true
    by true same some = now_listed q u ts same
    by false same some = still_listed q u ts (listed some)
marks_list q at (other ∷ marks) o ts listed is = marks_list q at marks o ts listed is

still_some : (ends : Bool) (o : Option ℕ) → is_some (if ends then None else o) ≡ true → is_some o ≡ true
still_some true o is = absurd cc
still_some false o is = is

was_some : (q : Topic) (event : Event) (o : Option ℕ) → is_some (dropped_after q None event o) ≡ true → is_some o ≡ true
was_some q (Own (Subscribe u)) o is = still_some (same_topic u q) o is
was_some q (Step (FanEnd u)) o is = still_some (same_topic u q) o is
was_some q other o is = is

published_is_listed : (L : Entries) (q : Topic) → is_some (last_published L q) ≡ true → list_any (same_topic q) (ever_fanned L) ≡ true
published_is_listed [] q is = absurd cc
published_is_listed (e ∷ L) q is = marks_list q e.at.0 e.effects.marks (dropped_after q None e.event (last_published L q)) (ever_fanned L) (λ some. published_is_listed L q (was_some q e.event (last_published L q) some)) is

covered : (a b k f : Bool) → (a ≡ true → k ≡ true) → (b ≡ true → f ≡ true) → (a || b) ≡ ((k || f) && (a || b))
covered true b k f known fanned = ap (λ (c : Bool). (c || f) && true) (sym (known refl))
covered false true true f known fanned = refl
covered false true false f known fanned = ap (λ (c : Bool). c && true) (sym (fanned refl))
covered false false true f known fanned = refl
covered false false false true known fanned = refl
covered false false false false known fanned = refl

-- a topic with a mesh or a fanout is one of those that the trace lists
pub used_is_listed : (L : Entries) (q : Topic) → has_mesh L q ≡ (list_any (same_topic q) (known L ++ ever_fanned L) && has_mesh L q)
used_is_listed L q =
    covered (joined L q) (is_some (last_published L q)) (list_any (same_topic q) (known L)) (list_any (same_topic q) (ever_fanned L)) (joined_is_known L q) (published_is_listed L q)
    ∙ ap (λ (b : Bool). b && has_mesh L q) (sym (list_any-append (same_topic q) (known L) (ever_fanned L)))

-- ---- what a topic has

abbrev look : List (Topic × MeshOrFanout) → Topic → Option MeshOrFanout
look es t = lookup (λ u. is_eq (topic_order t u)) es

-- one topic has something else
pub put_so : (old new : List (Topic × MeshOrFanout)) (topic : Topic) (mesh_or_fanout : MeshOrFanout) → ((t : Topic) → look new t ≡ cond (is_eq (topic_order topic t)) (Some mesh_or_fanout) (look old t))
    → (t : Topic) → unwrap_or (look new t) neither_mesh_nor_fanout ≡ (if same_topic topic t then mesh_or_fanout else unwrap_or (look old t) neither_mesh_nor_fanout)
put_so old new topic mesh_or_fanout updates t =
    ap (λ (o : Option MeshOrFanout). unwrap_or o neither_mesh_nor_fanout) (updates t ∙ ap (λ (b : Bool). cond b (Some mesh_or_fanout) (look old t)) (same_order topic t))
    ∙ by (same_topic topic t)
  where
    by : (b : Bool) → unwrap_or (cond b (Some mesh_or_fanout) (look old t)) neither_mesh_nor_fanout ≡ (if b then mesh_or_fanout else unwrap_or (look old t) neither_mesh_nor_fanout)
    by true = refl
    by false = refl

abbrev has : Bool → Bool → MeshOrFanout
has mesh fanout = record { has_mesh = mesh; has_fanout = fanout }

-- ---- marks one by one

-- with these marks noted, the table has what they leave of the fanouts
abbrev pub Fanning : List Mark → MeshTopics → MeshTopics → Type 0
Fanning marks old new = (meshes fanouts : Topic → Bool) → HasTopics old meshes fanouts → HasTopics new meshes (λ t. after_marks (fanned_by t) marks (fanouts t))

pub fanned_more : (marks : List Mark) (i : ℕ) (mark : Mark) (old now new : MeshTopics) → i < length marks → mark ≡ get_or marks i mark
    → ((meshes fanouts : Topic → Bool) → HasTopics now meshes fanouts → HasTopics new meshes (λ t. fanned_by t mark (fanouts t)))
    → Fanning (take i marks) old now → Fanning (take (i + 1) marks) old new
fanned_more marks i mark old now new below is one fanning =
    subst (λ (ms : List Mark). Fanning ms old new) (sym (take_more marks i mark below ∙ ap (λ (x : Mark). take i marks ++ x ∷ []) (sym is)))
    (λ meshes fanouts agrees.
    let noted : HasTopics new meshes (λ t. fanned_by t mark (after_marks (fanned_by t) (take i marks) (fanouts t))) = one meshes (λ t. after_marks (fanned_by t) (take i marks) (fanouts t)) (fanning meshes fanouts agrees) in
    record { mesh_or_fanout = λ t. noted.mesh_or_fanout t ∙ ap (has (meshes t)) (sym (marks_more (fanned_by t) (take i marks) mark (fanouts t))) })

-- ---- an entry

fanned_so : (t : Topic) (at : ℕ) (marks : List Mark) (o : Option ℕ) → after_marks (fanned_by t) marks (is_some o) ≡ is_some (after_marks (published_after t at) marks o)
fanned_so t at [] o = refl
fanned_so t at (Published u ∷ marks) o = ap (after_marks (fanned_by t) marks) (by (same_topic u t)) ∙ fanned_so t at marks (if same_topic u t then Some at else o)
  where
    by : (b : Bool) → (if b then true else is_some o) ≡ is_some (if b then Some at else o)
    by true = refl
    by false = refl
fanned_so t at (other ∷ marks) o = fanned_so t at marks o

ended_so : (ends : Bool) (o : Option ℕ) → (if ends then false else is_some o) ≡ is_some (if ends then None else o)
ended_so true o = refl
ended_so false o = refl

dropped_so : (t : Topic) (event : Event) (o : Option ℕ) → dropped_by t event (is_some o) ≡ is_some (dropped_after t None event o)
dropped_so t (Own (Subscribe u)) o = ended_so (same_topic u t) o
dropped_so t (Step (FanEnd u)) o = ended_so (same_topic u t) o
dropped_so t other o = refl

pub fanned_all : (new : MeshTopics) (e : Entry) (L : Entries) (marks : List Mark) → marks ≡ e.effects.marks
    → HasTopics new (λ t. joined_after t e.event (joined L t)) (λ t. after_marks (fanned_by t) marks (dropped_by t e.event (is_some (last_published L t))))
    → AgreesOnMeshTopics new (e ∷ L)
fanned_all new e L marks are agrees = record {
  mesh_or_fanout = λ t.
      agrees.mesh_or_fanout t
      ∙ ap (has (joined (e ∷ L) t)) (
      ap (λ (ms : List Mark). after_marks (fanned_by t) ms (dropped_by t e.event (is_some (last_published L t)))) are
      ∙ ap (after_marks (fanned_by t) e.effects.marks) (dropped_so t e.event (last_published L t))
      ∙ fanned_so t e.at.0 e.effects.marks (dropped_after t None e.event (last_published L t)));
}
