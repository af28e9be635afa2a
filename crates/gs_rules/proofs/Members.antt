-- Who is in a mesh: whoever was and was not pruned, and whoever was grafted; only on joined topics.
use Rattle.std.proofs.Common.{◌≡◌, ℕ, Bool, true, false, not, if◌then◌else◌, List, [], ◌∷◌, ◌++◌, map, filter, refl, sym, ap, subst, ◌∙◌, arith}
use Rattle.std.specs.Prelude.{◌&&◌, ◌||◌}
use Rattle.std.specs.List.{AllByRecursion, flat_map, list_any}
use Rattle.std.specs.declared.cmp.Ordering.{Ordering}
use Rattle.std.specs.declared.cmp.Ordering.TheVariants.{Less, Equal, Greater}
use Rattle.std.specs.Ordering.{nat_cmp}
use Rattle.std.specs.FinMap.Entries.{by_order}
use Rattle.std.proofs.lemmas.Bool.{and_from, or_from, or_left, or_right}
use Rattle.std.proofs.lemmas.Bool.Decides.{nat_tests}
use Rattle.std.proofs.lemmas.Cmp.{nat_eq_equiv}
use Rattle.std.proofs.lemmas.List.Folds.{list_any-append}
use Rattle.std.proofs.lemmas.List.Sorted.{list_any-IsPermutation}
use Rattle.std.proofs.lemmas.Slice.Eq.{bytes_eq-Decides}
use Rattle.gs_base.specs.declared.names.PeerNo.{PeerNo}
use Rattle.gs_base.specs.declared.names.Topic.{Topic}
use Rattle.gs_base.specs.declared.mark.Mark.{Mark}
use Rattle.gs_base.specs.declared.mark.Mark.TheVariants.{Grafted, Pruned}
use Rattle.gs_base.specs.Names.{same_peer, same_topic}
use Rattle.gs_mesh.specs.Peers.{is_among, put_in, without}
use Rattle.gs_rules.specs.declared.event.Event.{Event}
use Rattle.gs_rules.specs.declared.event.Event.TheVariants.{Step, Own}
use Rattle.gs_rules.specs.declared.event.BeatStep.TheVariants.{MeshBeat}
use Rattle.gs_rules.specs.declared.trace.Effects.{Effects}
use Rattle.gs_plan.specs.declared.plan.Act.TheVariants.{Subscribe, Unsubscribe}
use Rattle.gs_rules.specs.declared.trace.Entry.{Entry}
use Rattle.gs_rules.specs.Peers.{Peer}
use Rattle.gs_rules.specs.Tables.{Entries, after_marks, joined, joined_after}
use Rattle.gs_rules.specs.Meshes.{mesh, mesh_after}
use Rattle.gs_rules.specs.Membership.{barring, deficit_marks, each_on, leaving, meshes_with}
use Rattle.gs_rules.specs.MeshRules.{unsubscribe_rule}
use Rattle.gs_rules.specs.Rules.{rule_of}
use Rattle.gs_rules.specs.Modes.{Follows, free}
use Rattle.gs_rules.specs.Legal.{Legal}
use Rattle.gs_rules.proofs.Each.{each_passing, each_weaker}
use Rattle.gs_rules.proofs.Legality.{legal_newest}
use Rattle.gs_rules.proofs.Marks.{ComesOnto, MayMark, each_among}
use Rattle.gs_rules.proofs.EntryMarks.{entry_marks}
use Rattle.gs_rules.proofs.OwnBeats.{IsOfOwn, next_of_own}
use Rattle.gs_rules.proofs.Topics.{same_are_one}

-- nothing both holds and does not
pub never : (b : Bool) → b ≡ true → b ≡ false → ⊥
never true h k = absurd cc
never false h k = absurd cc

-- ---- lists of peers

-- peers of one number are one
pub one_peer : (p q : PeerNo) → same_peer p q ≡ true → p ≡ q
one_peer p q is =
    let same : p.0 ≡ q.0 = grind (arith, nat_tests) in
    ap (λ (n : ℕ). record { 0 = n }) same

-- what holds of each of some holds of whoever is among them
pub of_member : (P : PeerNo → Type 0) (qs : List PeerNo) (q : PeerNo) → AllByRecursion P qs → is_among qs q ≡ true → P q
of_member P [] q all is = absurd cc
of_member P (r ∷ qs) q all is = by (same_peer q r) refl is (of_member P qs q all.1)
  where
    by : (same : Bool) → same_peer q r ≡ same → (same || is_among qs q) ≡ true → (is_among qs q ≡ true → P q) → P q
    by true e is later = subst P (sym (one_peer q r e)) all.0
    by false e is later = later is

-- what holds of one and of each of others holds of each, where the one is put in
pub put_are : (P : PeerNo → Type 0) (q : PeerNo) (qs : List PeerNo) → P q → AllByRecursion P qs → AllByRecursion P (put_in q qs)
put_are P q [] one all = (one, tt)
put_are P q (r ∷ qs) one all = by (nat_cmp r.0 q.0) (put_are P q qs one all.1)
  where
    by : (o : Ordering) → AllByRecursion P (put_in q qs) → AllByRecursion P (by_order o (r ∷ put_in q qs) (r ∷ qs) (q ∷ r ∷ qs))
    by Less rest = (all.0, rest)
    by Equal rest = all
    by Greater rest = (one, all)

-- who is among all but one
pub among_without : (q : PeerNo) (qs : List PeerNo) → AllByRecursion (λ (r : PeerNo). (is_among qs r ≡ true) × (same_peer q r ≡ false)) (without q qs)
among_without q qs = each_passing (λ (r : PeerNo). is_among qs r ≡ true) (λ (r : PeerNo). (is_among qs r ≡ true) × (same_peer q r ≡ false)) (λ (r : PeerNo). not (same_peer q r)) (λ r out is. (is, apart (same_peer q r) out)) qs (each_among qs)
  where
    apart : (b : Bool) → not b ≡ true → b ≡ false
    apart true out = absurd cc
    apart false out = refl

-- ---- who comes

-- where the mark grafts somebody to this topic, it is such a one
abbrev pub ComesAs : Topic → (PeerNo → Type 0) → Mark → Type 0
ComesAs t Good (Grafted q u) = same_topic u t ≡ true → Good q
ComesAs t Good other = Unit {0}

-- what holds of each member, and of each that is grafted, holds of each member after the marks
pub members_are : (Good : PeerNo → Type 0) (t : Topic) (marks : List Mark) (before : List PeerNo) → AllByRecursion (ComesAs t Good) marks → AllByRecursion Good before → AllByRecursion Good (after_marks (mesh_after t) marks before)
members_are Good t [] before come all = all
members_are Good t (Grafted q u ∷ marks) before come all = members_are Good t marks (mesh_after t (Grafted q u) before) come.1 (by (same_topic u t) refl)
  where
    by : (same : Bool) → same_topic u t ≡ same → AllByRecursion Good (if same then put_in q before else before)
    by true is = put_are Good q before (come.0 is) all
    by false is = all
members_are Good t (Pruned q u ∷ marks) before come all = members_are Good t marks (mesh_after t (Pruned q u) before) come.1 (by (same_topic u t))
  where
    by : (same : Bool) → AllByRecursion Good (if same then without q before else before)
    by true = each_passing Good Good (λ (r : PeerNo). not (same_peer q r)) (λ r out good. good) before all
    by false = all
members_are Good t (other ∷ marks) before come all = members_are Good t marks before come.1 all

-- ---- who stays

-- a mark takes this neighbour out of the mesh of this topic
abbrev pub prunes : Topic → PeerNo → Mark → Bool
prunes t r (Pruned q u) = same_peer q r && same_topic u t
prunes t r other = false

-- the mark grafts nobody
abbrev pub GraftsNone : Mark → Type 0
GraftsNone (Grafted q u) = ⊥
GraftsNone other = Unit {0}

-- it was a member, and no mark takes it out
abbrev pub Stays : Topic → List PeerNo → List Mark → PeerNo → Type 0
Stays t before marks r = (is_among before r ≡ true) × (list_any (prunes t r) marks ≡ false)

pub neither : (a b : Bool) → a ≡ false → (a && b) ≡ false
neither true b is = absurd cc
neither false b is = refl

pub nor : (a b : Bool) → b ≡ false → (a && b) ≡ false
nor true b is = is
nor false b is = refl

-- where nobody is grafted, each member stayed
pub members_stay : (t : Topic) (marks : List Mark) (before : List PeerNo) → AllByRecursion GraftsNone marks → AllByRecursion (Stays t before marks) (after_marks (mesh_after t) marks before)
members_stay t [] before none = each_weaker (λ (r : PeerNo). is_among before r ≡ true) (Stays t before []) (λ r is. (is, refl)) before (each_among before)
members_stay t (Grafted q u ∷ marks) before none = absurd none.0
members_stay t (Pruned q u ∷ marks) before none = by (same_topic u t) refl (members_stay t marks (without q before) none.1) (members_stay t marks before none.1)
  where
    by : (same : Bool) → same_topic u t ≡ same
        → AllByRecursion (Stays t (without q before) marks) (after_marks (mesh_after t) marks (without q before))
        → AllByRecursion (Stays t before marks) (after_marks (mesh_after t) marks before)
        → AllByRecursion (Stays t before (Pruned q u ∷ marks)) (after_marks (mesh_after t) marks (if same then without q before else before))
    by true is less all =
        each_weaker (Stays t (without q before) marks) (Stays t before (Pruned q u ∷ marks))
        (λ r stays.
        let left = of_member (λ (r : PeerNo). (is_among before r ≡ true) × (same_peer q r ≡ false)) (without q before) r (among_without q before) stays.0 in
        (left.0, or_from (same_peer q r && same_topic u t) (list_any (prunes t r) marks) (neither (same_peer q r) (same_topic u t) left.1) stays.1))
        (after_marks (mesh_after t) marks (without q before)) less
    by false is less all =
        each_weaker (Stays t before marks) (Stays t before (Pruned q u ∷ marks))
        (λ r stays. (stays.0, or_from (same_peer q r && same_topic u t) (list_any (prunes t r) marks) (nor (same_peer q r) (same_topic u t) is) stays.1))
        (after_marks (mesh_after t) marks before) all
members_stay t (other ∷ marks) before none = members_stay t marks before none.1

-- ---- who is pruned

-- what is found among some is found with others after them
any_front : (test : Mark → Bool) (xs ys : List Mark) → list_any test xs ≡ true → list_any test (xs ++ ys) ≡ true
any_front test xs ys is = list_any-append test xs ys ∙ or_left (list_any test xs) (list_any test ys) is

abbrev pruned_marks : List (PeerNo × Topic) → List Mark
pruned_marks pairs = map (λ (x : PeerNo × Topic). Pruned x.0 x.1) pairs

-- each of these, from the mesh of a topic
each_pruned : (t : Topic) (r : PeerNo) (qs : List PeerNo) → is_among qs r ≡ true → list_any (prunes t r) (pruned_marks (each_on t qs)) ≡ true
each_pruned t r [] is = absurd cc
each_pruned t r (q ∷ qs) is = by (same_peer r q) refl is (each_pruned t r qs)
  where
    by : (same : Bool) → same_peer r q ≡ same → (same || is_among qs r) ≡ true → (is_among qs r ≡ true → list_any (prunes t r) (pruned_marks (each_on t qs)) ≡ true) → list_any (prunes t r) (pruned_marks (each_on t (q ∷ qs))) ≡ true
    by true e is later =
        let itself : same_peer q r ≡ true = subst (λ (s : PeerNo). same_peer s r ≡ true) (one_peer r q e) (nat_eq_equiv.refl r.0) in
        or_left (same_peer q r && same_topic t t) (list_any (prunes t r) (pruned_marks (each_on t qs))) (and_from (same_peer q r) (same_topic t t) itself ((bytes_eq-Decides t.0 t.0).1 refl))
    by false e is later = or_right (same_peer q r && same_topic t t) (list_any (prunes t r) (pruned_marks (each_on t qs))) (later is)

-- and one, from each of these topics' meshes that it is in
pub pruned_with : (L : Entries) (q : PeerNo) (t : Topic) (ts : List Topic) → list_any (same_topic t) ts ≡ true → is_among (mesh L t) q ≡ true → list_any (prunes t q) (pruned_marks (meshes_with L q ts)) ≡ true
pruned_with L q t [] is member = absurd cc
pruned_with L q t (u ∷ ts) is member = by (same_topic t u) (is_among (mesh L u) q) refl refl is (λ there. pruned_with L q t ts there member)
  where
    by : (same there : Bool) → same_topic t u ≡ same → is_among (mesh L u) q ≡ there → (same || list_any (same_topic t) ts) ≡ true → (list_any (same_topic t) ts ≡ true → list_any (prunes t q) (pruned_marks (meshes_with L q ts)) ≡ true) → list_any (prunes t q) (pruned_marks (map (λ (v : Topic). (q, v)) (if there then u ∷ filter (λ (v : Topic). is_among (mesh L v) q) ts else filter (λ (v : Topic). is_among (mesh L v) q) ts))) ≡ true
    by true true e f is later =
        let itself : same_topic u t ≡ true = subst (λ (v : Topic). same_topic v t ≡ true) (same_are_one t u e) ((bytes_eq-Decides t.0 t.0).1 refl) in
        or_left (same_peer q q && same_topic u t) (list_any (prunes t q) (pruned_marks (meshes_with L q ts))) (and_from (same_peer q q) (same_topic u t) (nat_eq_equiv.refl q.0) itself)
    by true false e f is later =
        let there : is_among (mesh L u) q ≡ true = subst (λ (v : Topic). is_among (mesh L v) q ≡ true) (same_are_one t u e) member in
        absurd (never (is_among (mesh L u) q) there f)
    by false true e f is later = or_right (same_peer q q && same_topic u t) (list_any (prunes t q) (pruned_marks (meshes_with L q ts))) (later is)
    by false false e f is later = later is

-- whoever leaves is pruned, whatever else is marked
pub leaving_prunes : (p : Peer) (L : Entries) (at : ℕ) (t : Topic) (q : PeerNo) (pairs : List (PeerNo × Topic)) (rest : List Mark) → list_any (prunes t q) (pruned_marks pairs) ≡ true → list_any (prunes t q) (leaving p L at pairs ++ rest) ≡ true
leaving_prunes p L at t q pairs rest is =
    any_front (prunes t q) (leaving p L at pairs) rest (any_front (prunes t q) (pruned_marks pairs) (flat_map (deficit_marks p L at) pairs) is)

-- ---- meshes are of joined topics

grafts_none_leaving : (p : Peer) (L : Entries) (at : ℕ) (u : Topic) (mark : Mark) → MayMark p L at (Own (Unsubscribe u)) mark → GraftsNone mark
grafts_none_leaving p L at u (Grafted q t) may = may.who
grafts_none_leaving p L at u other may = tt

-- whoever comes in comes onto a topic that the peer is subscribed to then
pub joins_then : (L : Entries) (event : Event) (t : Topic) → IsOfOwn L event → ComesOnto L event t → joined_after t event (joined L t) ≡ true
joins_then L (Step (MeshBeat u)) t own is = subst (λ (v : Topic). joined L v ≡ true) (sym is) own
joins_then L other t own is = is

comes_joined : (p : Peer) (L : Entries) (at : ℕ) (event : Event) (t : Topic) → IsOfOwn L event → (mark : Mark) → MayMark p L at event mark → ComesAs t (λ q. joined_after t event (joined L t) ≡ true) mark
comes_joined p L at event t own (Grafted q u) may = λ same. subst (λ (v : Topic). joined_after v event (joined L v) ≡ true) (same_are_one u t same) (joins_then L event u own may.joins)
comes_joined p L at event t own other may = tt

module _ (p : Peer) (L : Entries) (t : Topic) (before : AllByRecursion (λ q. joined L t ≡ true) (mesh L t)) where
  -- where the topic stays joined that has members
  still : (event : Event) (e : Entry) → IsOfOwn L event → Follows free (rule_of p L e.at event) tt e.effects tt → (joined L t ≡ true → joined_after t event (joined L t) ≡ true) → AllByRecursion (λ q. joined_after t event (joined L t) ≡ true) (after_marks (mesh_after t) e.effects.marks (mesh L t))
  still event e own effects stays =
      members_are (λ q. joined_after t event (joined L t) ≡ true) t e.effects.marks (mesh L t)
      (each_weaker (MayMark p L e.at.0 event) (ComesAs t (λ q. joined_after t event (joined L t) ≡ true)) (comes_joined p L e.at.0 event t own) e.effects.marks (entry_marks p L event e effects))
      (each_weaker (λ q. joined L t ≡ true) (λ q. joined_after t event (joined L t) ≡ true) (λ q joins. stays joins) (mesh L t) before)

  subscribed : (same before : Bool) → before ≡ true → (if same then true else before) ≡ true
  subscribed true before is = refl
  subscribed false before is = is

  -- where the peer leaves it, all are pruned
  left : (u : Topic) (e : Entry) → Follows free (rule_of p L e.at (Own (Unsubscribe u))) tt e.effects tt → (same : Bool) → same_topic u t ≡ same → AllByRecursion (λ q. (if same then false else joined L t) ≡ true) (after_marks (mesh_after t) e.effects.marks (mesh L t))
  left u e effects true is =
      let x : Effects = unsubscribe_rule p L e.at u in
      let seconds : ℕ = p.params.timing.unsubscribe_backoff_s in
      each_weaker (Stays t (mesh L t) e.effects.marks) (λ q. false ≡ true)
      (λ q stays.
      let member : is_among (mesh L u) q ≡ true = subst (λ (v : Topic). is_among (mesh L v) q ≡ true) (sym (same_are_one u t is)) stays.0 in
      let pruned : list_any (prunes u q) x.marks ≡ true = leaving_prunes p L e.at.0 u q (each_on u (mesh L u)) (barring e.at.0 seconds (each_on u (mesh L u))) (each_pruned u q (mesh L u) member) in
      let here : list_any (prunes t q) x.marks ≡ true = subst (λ (v : Topic). list_any (prunes v q) x.marks ≡ true) (same_are_one u t is) pruned in
      sym stays.1 ∙ sym (list_any-IsPermutation (prunes t q) x.marks e.effects.marks effects.0.marks) ∙ here)
      (after_marks (mesh_after t) e.effects.marks (mesh L t))
      (members_stay t e.effects.marks (mesh L t) (each_weaker (MayMark p L e.at.0 (Own (Unsubscribe u))) GraftsNone (grafts_none_leaving p L e.at.0 u) e.effects.marks (entry_marks p L (Own (Unsubscribe u)) e effects)))
  left u e effects false is =
      subst (λ (same : Bool). AllByRecursion (λ q. (if same then false else joined L t) ≡ true) (after_marks (mesh_after t) e.effects.marks (mesh L t))) is
      (still (Own (Unsubscribe u)) e tt effects (λ joins. subst (λ (same : Bool). (if same then false else joined L t) ≡ true) (sym is) joins))

  joined_step : (event : Event) (e : Entry) → IsOfOwn L event → Follows free (rule_of p L e.at event) tt e.effects tt → AllByRecursion (λ q. joined_after t event (joined L t) ≡ true) (after_marks (mesh_after t) e.effects.marks (mesh L t))
  joined_step (Own (Subscribe u)) e own effects = still (Own (Subscribe u)) e own effects (λ joins. subscribed (same_topic u t) (joined L t) joins)
  joined_step (Own (Unsubscribe u)) e own effects = left u e effects (same_topic u t) refl
  joined_step other e own effects = still other e own effects (λ joins. joins)

pub mesh_is_joined : (p : Peer) (L : Entries) (t : Topic) → Legal p L → AllByRecursion (λ q. joined L t ≡ true) (mesh L t)
mesh_is_joined p [] t legal = tt
mesh_is_joined p (e ∷ L) t legal =
    let newest = legal_newest p e L legal in
    joined_step p L t (mesh_is_joined p L t legal.1) e.event e (next_of_own p L e.at.0 e.event legal.1 newest.next) newest.effects

pub member_joined : (p : Peer) (L : Entries) (q : PeerNo) (t : Topic) → Legal p L → is_among (mesh L t) q ≡ true → joined L t ≡ true
member_joined p L q t legal is = of_member (λ r. joined L t ≡ true) (mesh L t) q (mesh_is_joined p L t legal) is

-- a topic that is not joined has an empty mesh
pub mesh_of_own : (p : Peer) (L : Entries) (t : Topic) → Legal p L → joined L t ≡ false → mesh L t ≡ []
mesh_of_own p L t legal out = by (mesh L t) (mesh_is_joined p L t legal)
  where
    by : (qs : List PeerNo) → AllByRecursion (λ (q : PeerNo). joined L t ≡ true) qs → qs ≡ []
    by [] all = refl
    by (q ∷ qs) all = absurd (never (joined L t) all.0 out)
