-- No explicit neighbour is in a mesh or in a fanout.
use Rattle.std.proofs.Common.{◌≡◌, Bool, true, false, not, if◌then◌else◌, List, [], ◌∷◌, refl}
use Rattle.std.specs.List.{AllByRecursion}
use Rattle.gs_base.specs.declared.names.PeerNo.{PeerNo}
use Rattle.gs_base.specs.declared.names.Topic.{Topic}
use Rattle.gs_base.specs.declared.mark.Mark.{Mark}
use Rattle.gs_base.specs.declared.mark.Mark.TheVariants.{Fanned, Grafted, Unfanned}
use Rattle.gs_base.specs.Names.{same_peer, same_topic}
use Rattle.gs_mesh.specs.Peers.{is_among, put_in, without}
use Rattle.gs_rules.specs.declared.event.Event.{Event}
use Rattle.gs_rules.specs.declared.event.Event.TheVariants.{Step, Own}
use Rattle.gs_rules.specs.declared.event.BeatStep.TheVariants.{FanEnd}
use Rattle.gs_plan.specs.declared.plan.Act.TheVariants.{Subscribe}
use Rattle.gs_rules.specs.declared.trace.Entry.{Entry}
use Rattle.gs_rules.specs.Peers.{Peer, is_explicit}
use Rattle.gs_rules.specs.Tables.{Entries, after_marks}
use Rattle.gs_rules.specs.Meshes.{dropped_after, fanout, fanout_after, mesh}
use Rattle.gs_rules.specs.Legal.{Legal}
use Rattle.gs_rules.proofs.Each.{each_passing, each_weaker}
use Rattle.gs_rules.proofs.Legality.{legal_newest}
use Rattle.gs_rules.proofs.Marks.{MayMark}
use Rattle.gs_rules.proofs.EntryMarks.{entry_marks}
use Rattle.gs_rules.proofs.Members.{ComesAs, members_are, of_member, put_are}

abbrev Ordinary : Peer → PeerNo → Type 0
Ordinary p q = is_explicit p q ≡ false

all_ordinary : (p : Peer) (qs : List PeerNo) (q : PeerNo) → AllByRecursion (Ordinary p) qs → is_explicit p q ≡ true → is_among qs q ≡ false
all_ordinary p qs q all explicit = by (is_among qs q) refl
  where
    by : (b : Bool) → is_among qs q ≡ b → is_among qs q ≡ false
    by true is = absurd (never (is_explicit p q) explicit (of_member (Ordinary p) qs q all is))
      where
        never : (b : Bool) → b ≡ true → b ≡ false → ⊥
        never true h k = absurd cc
        never false h k = absurd cc
    by false is = is

-- ---- meshes

comes_ordinary : (p : Peer) (L : Entries) (e : Entry) (t : Topic) (mark : Mark) → MayMark p L e.at.0 e.event mark → ComesAs t (Ordinary p) mark
comes_ordinary p L e t (Grafted q u) may = λ same. may.ordinary
comes_ordinary p L e t other may = tt

mesh_is_ordinary : (p : Peer) (L : Entries) (t : Topic) → Legal p L → AllByRecursion (Ordinary p) (mesh L t)
mesh_is_ordinary p [] t legal = tt
mesh_is_ordinary p (e ∷ L) t legal =
    members_are (Ordinary p) t e.effects.marks (mesh L t)
    (each_weaker (MayMark p L e.at.0 e.event) (ComesAs t (Ordinary p)) (comes_ordinary p L e t) e.effects.marks (entry_marks p L e.event e (legal_newest p e L legal).effects))
    (mesh_is_ordinary p L t legal.1)

pub meshes_have_none : (p : Peer) (L : Entries) (q : PeerNo) (t : Topic) → Legal p L → is_explicit p q ≡ true → is_among (mesh L t) q ≡ false
meshes_have_none p L q t legal explicit = all_ordinary p (mesh L t) q (mesh_is_ordinary p L t legal) explicit

-- ---- fanouts

-- where the mark puts somebody into a fanout, it is an ordinary neighbour
abbrev FansOrdinary : Peer → Mark → Type 0
FansOrdinary p (Fanned q u) = Ordinary p q
FansOrdinary p other = Unit {0}

fans_ordinary : (p : Peer) (L : Entries) (e : Entry) (mark : Mark) → MayMark p L e.at.0 e.event mark → FansOrdinary p mark
fans_ordinary p L e (Fanned q u) may = may
fans_ordinary p L e other may = tt

fans_are : (p : Peer) (t : Topic) (marks : List Mark) (before : List PeerNo) → AllByRecursion (FansOrdinary p) marks → AllByRecursion (Ordinary p) before → AllByRecursion (Ordinary p) (after_marks (fanout_after t) marks before)
fans_are p t [] before come all = all
fans_are p t (Fanned q u ∷ marks) before come all = fans_are p t marks (fanout_after t (Fanned q u) before) come.1 (by (same_topic u t))
  where
    by : (same : Bool) → AllByRecursion (Ordinary p) (if same then put_in q before else before)
    by true = put_are (Ordinary p) q before come.0 all
    by false = all
fans_are p t (Unfanned q u ∷ marks) before come all = fans_are p t marks (fanout_after t (Unfanned q u) before) come.1 (by (same_topic u t))
  where
    by : (same : Bool) → AllByRecursion (Ordinary p) (if same then without q before else before)
    by true = each_passing (Ordinary p) (Ordinary p) (λ (r : PeerNo). not (same_peer q r)) (λ r out good. good) before all
    by false = all
fans_are p t (other ∷ marks) before come all = fans_are p t marks before come.1 all

drop_keeps : (p : Peer) (t : Topic) (event : Event) (before : List PeerNo) → AllByRecursion (Ordinary p) before → AllByRecursion (Ordinary p) (dropped_after t [] event before)
drop_keeps p t (Own (Subscribe u)) before all = by (same_topic u t)
  where
    by : (same : Bool) → AllByRecursion (Ordinary p) (if same then [] else before)
    by true = tt
    by false = all
drop_keeps p t (Step (FanEnd u)) before all = by (same_topic u t)
  where
    by : (same : Bool) → AllByRecursion (Ordinary p) (if same then [] else before)
    by true = tt
    by false = all
drop_keeps p t other before all = all

fanout_is_ordinary : (p : Peer) (L : Entries) (t : Topic) → Legal p L → AllByRecursion (Ordinary p) (fanout L t)
fanout_is_ordinary p [] t legal = tt
fanout_is_ordinary p (e ∷ L) t legal =
    fans_are p t e.effects.marks (dropped_after t [] e.event (fanout L t))
    (each_weaker (MayMark p L e.at.0 e.event) (FansOrdinary p) (fans_ordinary p L e) e.effects.marks (entry_marks p L e.event e (legal_newest p e L legal).effects))
    (drop_keeps p t e.event (fanout L t) (fanout_is_ordinary p L t legal.1))

pub fanouts_have_none : (p : Peer) (L : Entries) (q : PeerNo) (t : Topic) → Legal p L → is_explicit p q ≡ true → is_among (fanout L t) q ≡ false
fanouts_have_none p L q t legal explicit = all_ordinary p (fanout L t) q (fanout_is_ordinary p L t legal) explicit
