-- Who is in a mesh is up and a neighbour, was not in backoff as it came, and stands in order.
use Rattle.std.proofs.Common.{◌≡◌, ◌<◌, ℕ, zero, suc, Bool, true, false, not, if◌then◌else◌, List, [], ◌∷◌, ◌++◌, refl, sym, subst, ◌∙◌, arith}
use Rattle.std.specs.Prelude.{nat_le}
use Rattle.std.specs.List.{AllByRecursion, IsAmong, list_any}
use Rattle.std.specs.declared.cmp.Ordering.{Ordering}
use Rattle.std.specs.declared.cmp.Ordering.TheVariants.{Less, Equal, Greater}
use Rattle.std.specs.Ordering.{nat_cmp}
use Rattle.std.specs.FinMap.Entries.{by_order}
use Rattle.std.proofs.lemmas.Bool.Decides.{nat_tests}
use Rattle.std.proofs.lemmas.List.Elements.{All-from_recursion}
use Rattle.std.proofs.lemmas.List.Kept.{AllPairs-cons}
use Rattle.std.proofs.lemmas.List.Sorted.{list_any-IsPermutation}
use Rattle.gs_base.specs.declared.names.PeerNo.{PeerNo}
use Rattle.gs_base.specs.declared.names.Topic.{Topic}
use Rattle.gs_base.specs.declared.mark.Mark.{Mark}
use Rattle.gs_base.specs.declared.mark.Mark.TheVariants.{Grafted, Pruned}
use Rattle.gs_base.specs.declared.rpc.Rpc.{Rpc}
use Rattle.gs_base.specs.Names.{same_peer, same_topic}
use Rattle.gs_params.specs.Picks.{IsAscending}
use Rattle.gs_mesh.specs.Peers.{is_among, put_in, without}
use Rattle.gs_rules.specs.declared.event.Event.{Event}
use Rattle.gs_rules.specs.declared.event.Event.TheVariants.{Heard, Shut, Part, Step, Own, Lost}
use Rattle.gs_rules.specs.declared.event.RpcPart.TheVariants.{GraftIn}
use Rattle.gs_rules.specs.declared.event.BeatStep.TheVariants.{GossipBeat, MeshBeat}
use Rattle.gs_plan.specs.declared.plan.Act.TheVariants.{HangUp, Subscribe}
use Rattle.gs_rules.specs.declared.event.RpcPart.{RpcPart}
use Rattle.gs_rules.specs.declared.trace.Entry.{Entry}
use Rattle.gs_rules.specs.Peers.{Peer, is_neighbour}
use Rattle.gs_rules.specs.Tables.{Entries, after_marks, is_shut, is_shut_after, own_topics, up, up_after}
use Rattle.gs_rules.specs.Meshes.{backoff, mesh, mesh_after, mesh_topics}
use Rattle.gs_rules.specs.Membership.{losing_marks, meshes_with}
use Rattle.gs_rules.specs.MeshRules.{lost_rule}
use Rattle.gs_rules.specs.Scoring.{IsFromNeighbour}
use Rattle.gs_rules.specs.Owed.{gossip_topics, heartbeat_groups, owed}
use Rattle.gs_rules.specs.Parts.{parts}
use Rattle.gs_rules.specs.Rules.{rule_of}
use Rattle.gs_rules.specs.Modes.{Follows, SaysTheSame, free}
use Rattle.gs_rules.specs.Legal.{IsNext, Legal}
use Rattle.gs_rules.proofs.Counted.{grafted_near}
use Rattle.gs_rules.proofs.Deliveries.{legal_before}
use Rattle.gs_rules.proofs.Each.{each_passing, each_weaker, of_each}
use Rattle.gs_rules.proofs.Legality.{legal_newest}
use Rattle.gs_rules.proofs.Marks.{GraftedBy, MayMark}
use Rattle.gs_rules.proofs.EntryMarks.{entry_marks}
use Rattle.gs_rules.proofs.Members.{ComesAs, GraftsNone, Stays, leaving_prunes, member_joined, members_are, members_stay, never, of_member, one_peer, pruned_with, prunes, put_are}
use Rattle.gs_rules.proofs.MeshTopics.{joined_has_mesh}
use Rattle.gs_rules.proofs.Owed.{IsOwed, OwesSuch, ReachesSuch, always_such, heartbeat_is_such, opens, parts_are_such}

-- ---- whoever sends a GRAFT is up

-- where the event is a GRAFT, its sender is up
abbrev SenderUp : Entries → Event → Type 0
SenderUp L (Part q (GraftIn graft)) = up L q ≡ true
SenderUp L other = Unit {0}

-- what is owed leaves everybody up
owed_leaves : (q : PeerNo) (event : Event) (before : Bool) → IsOwed event → before ≡ true → up_after q event before ≡ true
owed_leaves q (Part r part) before own is = is
owed_leaves q (Step step) before own is = is
owed_leaves q other before own is = absurd own

sender_stays : (L : Entries) (e : Entry) → IsOwed e.event → (event : Event) → SenderUp L event → SenderUp (e ∷ L) event
sender_stays L e own (Part q (GraftIn graft)) is = owed_leaves q e.event (up L q) own is
sender_stays L e own other is = tt

heartbeat_up : (p : Peer) (at : ℕ) → ReachesSuch p (Legal p) SenderUp (heartbeat_groups at)
heartbeat_up p at =
    heartbeat_is_such p (Legal p) SenderUp at
    (λ M legal. of_each (λ (t : Topic). SenderUp M (Step (MeshBeat t))) (λ t. tt) (own_topics M)) (λ M t. tt) (λ M t. tt)
    (λ M legal. of_each (λ (t : Topic). SenderUp M (Step (GossipBeat t))) (λ t. tt) (gossip_topics p M)) (λ M. tt)

heard_up : (p : Peer) (L : Entries) (e : Entry) (q : PeerNo) (rpc : Rpc) → Legal p (e ∷ L) → e.event ≡ Heard q rpc → AllByRecursion (SenderUp (e ∷ L)) (parts q rpc)
heard_up p L e q rpc legal is =
    let here : up L q ≡ true = (opens p L e.at.0 (Heard q rpc) (λ h. h) (subst (IsNext p L e.at.0 (owed p L).events) is (legal_newest p e L legal).next)).is_up in
    let now : up (e ∷ L) q ≡ true = subst (λ (event : Event). up_after q event (up L q) ≡ true) (sym is) here in
    parts_are_such (SenderUp (e ∷ L)) q rpc (each now)
  where
    each : up (e ∷ L) q ≡ true → (part : RpcPart) → SenderUp (e ∷ L) (Part q part)
    each is_up (GraftIn graft) = is_up
    each is_up other = tt

owed_up : (p : Peer) (L : Entries) → Legal p L → OwesSuch p (Legal p) SenderUp L (owed p L)
owed_up p L legal = always_such p SenderUp sender_stays (heard_up p) (heartbeat_up p) L legal

next_up : (p : Peer) (L : Entries) (at : ℕ) (events : List Event) (event : Event) (q : PeerNo) → AllByRecursion (SenderUp L) events → IsNext p L at events event → GraftedBy p L event q → up L q ≡ true
next_up p L at [] (Part r (GraftIn graft)) q all next is = absurd next
next_up p L at (first ∷ rest) (Part r (GraftIn graft)) q all next is = subst (λ (s : PeerNo). up L s ≡ true) (sym is) (subst (SenderUp L) (sym next) all.0)
next_up p L at events (Own (Subscribe t)) q all next is = is.1
next_up p L at events (Step (MeshBeat t)) q all next is = is.1
next_up p L at events other q all next is = absurd is

-- ---- members are up

grafts_none_lost : (p : Peer) (L : Entries) (at : ℕ) (event : Event) → ((q : PeerNo) → ¬ (GraftedBy p L event q)) → (mark : Mark) → MayMark p L at event mark → GraftsNone mark
grafts_none_lost p L at event none (Grafted q t) may = none q may.who
grafts_none_lost p L at event none other may = tt

comes_up : (p : Peer) (L : Entries) (at : ℕ) (event : Event) (t : Topic) → ((q : PeerNo) → GraftedBy p L event q → up L q ≡ true) → (mark : Mark) → MayMark p L at event mark → ComesAs t (λ q. up L q ≡ true) mark
comes_up p L at event t each (Grafted q u) may = λ same. each q may.who
comes_up p L at event t each other may = tt

module _ (p : Peer) (L : Entries) (t : Topic) (legal : Legal p L) where
  -- whoever is lost is pruned
  lost_pruned : (e : Entry) (r : PeerNo) → SaysTheSame e.effects (lost_rule p L e.at r) → is_among (mesh L t) r ≡ true → list_any (prunes t r) e.effects.marks ≡ true
  lost_pruned e r same member =
      let stands : list_any (same_topic t) (mesh_topics L) ≡ true = joined_has_mesh L t (member_joined p L r t legal member) in
      let marked : list_any (prunes t r) (losing_marks p L e.at.0 r) ≡ true =
      leaving_prunes p L e.at.0 t r (meshes_with L r (mesh_topics L)) _ (pruned_with L r t (mesh_topics L) stands member) in
      sym (list_any-IsPermutation (prunes t r) (lost_rule p L e.at r).marks e.effects.marks same.marks) ∙ marked

  -- so that who stays was up and is another
  lost_up : (e : Entry) (r : PeerNo) → SaysTheSame e.effects (lost_rule p L e.at r) → AllByRecursion GraftsNone e.effects.marks → AllByRecursion (λ q. up L q ≡ true) (mesh L t) → AllByRecursion (λ q. (if same_peer r q then false else up L q) ≡ true) (after_marks (mesh_after t) e.effects.marks (mesh L t))
  lost_up e r same none before =
      each_weaker (Stays t (mesh L t) e.effects.marks) (λ q. (if same_peer r q then false else up L q) ≡ true)
      (λ q stays. by q stays (same_peer r q) refl) (after_marks (mesh_after t) e.effects.marks (mesh L t)) (members_stay t e.effects.marks (mesh L t) none)
    where
      by : (q : PeerNo) → Stays t (mesh L t) e.effects.marks q → (is : Bool) → same_peer r q ≡ is → (if is then false else up L q) ≡ true
      by q stays true is =
          let itself : r ≡ q = one_peer r q is in
          let member : is_among (mesh L t) r ≡ true = subst (λ (s : PeerNo). is_among (mesh L t) s ≡ true) (sym itself) stays.0 in
          absurd (never (list_any (prunes t r) e.effects.marks) (lost_pruned e r same member) (subst (λ (s : PeerNo). list_any (prunes t s) e.effects.marks ≡ false) (sym itself) stays.1))
      by q stays false is = of_member (λ s. up L s ≡ true) (mesh L t) q before stays.0

  lost_step : (event : Event) (e : Entry) (r : PeerNo) → ((q : PeerNo) → ¬ (GraftedBy p L event q)) → Follows free (rule_of p L e.at event) tt e.effects tt → SaysTheSame e.effects (lost_rule p L e.at r) → AllByRecursion (λ q. up L q ≡ true) (mesh L t) → AllByRecursion (λ q. (if same_peer r q then false else up L q) ≡ true) (after_marks (mesh_after t) e.effects.marks (mesh L t))
  lost_step event e r none effects same before =
      lost_up e r same (each_weaker (MayMark p L e.at.0 event) GraftsNone (grafts_none_lost p L e.at.0 event none) e.effects.marks (entry_marks p L event e effects)) before

  up_step : (event : Event) (e : Entry) → IsNext p L e.at.0 (owed p L).events event → Follows free (rule_of p L e.at event) tt e.effects tt → is_shut_after event (is_shut L) ≡ false → (is_shut L ≡ false → AllByRecursion (λ q. up L q ≡ true) (mesh L t)) → AllByRecursion (λ q. up_after q event (up L q) ≡ true) (after_marks (mesh_after t) e.effects.marks (mesh L t))
  up_step (Lost r loss) e next effects running before = lost_step (Lost r loss) e r (λ q h. h) effects effects.0 (before running)
  up_step (Own (HangUp r)) e next effects running before = lost_step (Own (HangUp r)) e r (λ q h. h) effects effects.0 (before running)
  up_step Shut e next effects running before = absurd cc
  up_step other e next effects running before =
      members_are (λ q. up L q ≡ true) t e.effects.marks (mesh L t)
      (each_weaker (MayMark p L e.at.0 other) (ComesAs t (λ q. up L q ≡ true))
      (comes_up p L e.at.0 other t (λ q. next_up p L e.at.0 (owed p L).events other q (owed_up p L legal).0 next)) e.effects.marks (entry_marks p L other e effects))
      (before running)

mesh_is_up : (p : Peer) (L : Entries) (t : Topic) → Legal p L → is_shut L ≡ false → AllByRecursion (λ q. up L q ≡ true) (mesh L t)
mesh_is_up p [] t legal running = tt
mesh_is_up p (e ∷ L) t legal running =
    let newest = legal_newest p e L legal in
    up_step p L t legal.1 e.event e newest.next newest.effects running (mesh_is_up p L t legal.1)

pub member_up : (p : Peer) (L : Entries) (q : PeerNo) (t : Topic) → Legal p L → is_shut L ≡ false → is_among (mesh L t) q ≡ true → up L q ≡ true
member_up p L q t legal running member = of_member (λ r. up L r ≡ true) (mesh L t) q (mesh_is_up p L t legal running) member

-- ---- members are neighbours

comes_near : (p : Peer) (L : Entries) (at : ℕ) (event : Event) (t : Topic) → IsFromNeighbour p event → (mark : Mark) → MayMark p L at event mark → ComesAs t (λ q. is_neighbour p q ≡ true) mark
comes_near p L at event t near (Grafted q u) may = λ same. grafted_near p L event q near may.who
comes_near p L at event t near other may = tt

mesh_is_near : (p : Peer) (L : Entries) (t : Topic) → Legal p L → AllByRecursion (λ (e : Entry). IsFromNeighbour p e.event) L → AllByRecursion (λ q. is_neighbour p q ≡ true) (mesh L t)
mesh_is_near p [] t legal near = tt
mesh_is_near p (e ∷ L) t legal near =
    members_are (λ q. is_neighbour p q ≡ true) t e.effects.marks (mesh L t)
    (each_weaker (MayMark p L e.at.0 e.event) (ComesAs t (λ q. is_neighbour p q ≡ true)) (comes_near p L e.at.0 e.event t near.0) e.effects.marks (entry_marks p L e.event e (legal_newest p e L legal).effects))
    (mesh_is_near p L t legal.1 near.1)

pub member_near : (p : Peer) (L : Entries) (q : PeerNo) (t : Topic) → Legal p L → AllByRecursion (λ (e : Entry). IsFromNeighbour p e.event) L → is_among (mesh L t) q ≡ true → is_neighbour p q ≡ true
member_near p L q t legal near member = of_member (λ r. is_neighbour p r ≡ true) (mesh L t) q (mesh_is_near p L t legal near) member

-- ---- who came was not in backoff

among_holds : {X : Type 0} (P : X → Type 0) (xs : List X) (x : X) → AllByRecursion P xs → IsAmong xs x → P x
among_holds P [] x all (i, (below, is)) = absurd (omega (arith, below))
among_holds P (y ∷ xs) x all (zero, (below, is)) = subst P (sym is) all.0
among_holds P (y ∷ xs) x all (suc i, (below, is)) = among_holds P xs x all.1 (i, (omega (arith, below), is))

pub was_rested : (p : Peer) (later L : Entries) (e : Entry) (q : PeerNo) (t : Topic) → Legal p (later ++ e ∷ L) → IsAmong e.effects.marks (Grafted q t) → nat_le (backoff L q t) e.at.0 ≡ true
was_rested p later L e q t legal among =
    let here : Legal p (e ∷ L) = legal_before p later (e ∷ L) legal in
    (among_holds (MayMark p L e.at.0 e.event) e.effects.marks (Grafted q t) (entry_marks p L e.event e (legal_newest p e L here).effects) among).rested

-- ---- members stand in order

-- each is below all that stand after it
abbrev Rises : List PeerNo → Type 0
Rises [] = Unit {0}
Rises (q ∷ qs) = AllByRecursion (λ (r : PeerNo). q.0 < r.0) qs × Rises qs

put_rises : (q : PeerNo) (qs : List PeerNo) → Rises qs → Rises (put_in q qs)
put_rises q [] h = (tt, tt)
put_rises q (r ∷ qs) h = by (nat_cmp r.0 q.0) refl (put_rises q qs h.1)
  where
    by : (o : Ordering) → nat_cmp r.0 q.0 ≡ o → Rises (put_in q qs) → Rises (by_order o (r ∷ put_in q qs) (r ∷ qs) (q ∷ r ∷ qs))
    by Less is rest =
        let less : r.0 < q.0 = grind (arith, nat_tests) in
        (put_are (λ (s : PeerNo). r.0 < s.0) q qs less h.0, rest)
    by Equal is rest = h
    by Greater is rest =
        let less : q.0 < r.0 = grind (arith, nat_tests) in
        ((less, each_weaker (λ (s : PeerNo). r.0 < s.0) (λ (s : PeerNo). q.0 < s.0) (λ s more. omega (arith, less, more)) qs h.0), h)

without_rises : (q : PeerNo) (qs : List PeerNo) → Rises qs → Rises (without q qs)
without_rises q [] h = tt
without_rises q (r ∷ qs) h = by (not (same_peer q r)) (without_rises q qs h.1)
  where
    by : (stays : Bool) → Rises (without q qs) → Rises (if stays then r ∷ without q qs else without q qs)
    by true rest = (each_passing (λ (s : PeerNo). r.0 < s.0) (λ (s : PeerNo). r.0 < s.0) (λ (s : PeerNo). not (same_peer q s)) (λ s out less. less) qs h.0, rest)
    by false rest = rest

mark_rises : (t : Topic) (mark : Mark) (qs : List PeerNo) → Rises qs → Rises (mesh_after t mark qs)
mark_rises t (Grafted q u) qs h = by (same_topic u t)
  where
    by : (same : Bool) → Rises (if same then put_in q qs else qs)
    by true = put_rises q qs h
    by false = h
mark_rises t (Pruned q u) qs h = by (same_topic u t)
  where
    by : (same : Bool) → Rises (if same then without q qs else qs)
    by true = without_rises q qs h
    by false = h
mark_rises t other qs h = h

marks_rise : (t : Topic) (marks : List Mark) (qs : List PeerNo) → Rises qs → Rises (after_marks (mesh_after t) marks qs)
marks_rise t [] qs h = h
marks_rise t (mark ∷ marks) qs h = marks_rise t marks (mesh_after t mark qs) (mark_rises t mark qs h)

mesh_rises : (L : Entries) (t : Topic) → Rises (mesh L t)
mesh_rises [] t = tt
mesh_rises (e ∷ L) t = marks_rise t e.effects.marks (mesh L t) (mesh_rises L t)

ascends : (qs : List PeerNo) → Rises qs → IsAscending qs
ascends [] h = λ i j d less below. absurd (omega (arith, below))
ascends (q ∷ qs) h = AllPairs-cons (λ (r s : PeerNo). r.0 < s.0) q qs (All-from_recursion (λ (r : PeerNo). q.0 < r.0) qs h.0) (ascends qs h.1)

pub mesh_ascends : (L : Entries) (t : Topic) → IsAscending (mesh L t)
mesh_ascends L t = ascends (mesh L t) (mesh_rises L t)
