-- After a shut nothing changes what scores are made of, nor meshes, nor the peer's own topics.
use Rattle.std.proofs.Common.{◌≡◌, ℕ, Bool, true, false, List, [], ◌∷◌, ◌++◌, filter, length, refl, sym, ap, subst, ◌∙◌}
use Rattle.std.specs.List.{AllByRecursion}
use Rattle.std.proofs.lemmas.List.{nil_from_length}
use Rattle.std.proofs.lemmas.List.Sorted.{length_permutation}
use Rattle.gs_base.specs.declared.names.PeerNo.{PeerNo}
use Rattle.gs_base.specs.declared.names.Topic.{Topic}
use Rattle.gs_base.specs.declared.mark.Mark.{Mark}
use Rattle.gs_score.specs.Histories.{History, named, score_in}
use Rattle.gs_rules.specs.declared.event.Event.{Event}
use Rattle.gs_rules.specs.declared.event.Event.TheVariants.{Heard, Late, Part, BeatBegin, Step, Own, Lost, Decay, RoundEnd, Shut}
use Rattle.gs_plan.specs.declared.plan.Act.TheVariants.{Subscribe, Unsubscribe, Publish, Raw, HangUp}
use Rattle.gs_rules.specs.declared.trace.Entry.{Entry}
use Rattle.gs_rules.specs.declared.trace.Effects.{Effects}
use Rattle.gs_rules.specs.Peers.{Peer}
use Rattle.gs_rules.specs.Tables.{Entries, after_marks, ascending, is_shut, is_shut_after, joined, joined_after, known, known_after, own_topics, up, up_after}
use Rattle.gs_rules.specs.Meshes.{mesh, mesh_after}
use Rattle.gs_rules.specs.Scoring.{changed_after, history, marked_after, score, setting_of}
use Rattle.gs_rules.specs.Owed.{Debt, nothing, owed, owes, owing, paid}
use Rattle.gs_rules.specs.Rules.{rule_of, no_effects}
use Rattle.gs_rules.specs.Modes.{SaysTheSame, Follows, free}
use Rattle.gs_rules.specs.Legal.{IsNext, Legal, MayOpen}
use Rattle.gs_rules.proofs.Owed.{IsOwed, no_event_is_nothing, owed_are_such}
use Rattle.gs_rules.proofs.Legality.{legal_newest}

-- the peer has shut down, owes nothing, and nobody is up
record IsOver (p : Peer) (L : Entries) : Type 0 where
  shut : is_shut L ≡ true
  down : (q : PeerNo) → up L q ≡ false
  settled : owed p L ≡ nothing

-- an event that tells of an RPC that came too late
abbrev IsLate : Event → Type 0
IsLate (Late q rpc) = Unit {0}
IsLate other = ⊥

never : (b : Bool) → b ≡ true → b ≡ false → ⊥
never true h k = absurd cc
never false h k = absurd cc

late_alone : (p : Peer) (L : Entries) (at : ℕ) (event : Event) → is_shut L ≡ true → ((q : PeerNo) → up L q ≡ false) → MayOpen p L at event → IsLate event
late_alone p L at (Late q rpc) shut down may = tt
late_alone p L at (Heard q rpc) shut down may = absurd (never (up L q) may.is_up (down q))
late_alone p L at (Own (Raw q bytes)) shut down may = absurd (never (up L q) may (down q))
late_alone p L at (Own (Subscribe t)) shut down may = absurd (never (is_shut L) shut may.running)
late_alone p L at (Own (Unsubscribe t)) shut down may = absurd (never (is_shut L) shut may.running)
late_alone p L at (Own (Publish t payload)) shut down may = absurd (never (is_shut L) shut may.running)
late_alone p L at BeatBegin shut down may = absurd (never (is_shut L) shut may)
late_alone p L at Decay shut down may = absurd (never (is_shut L) shut may)
late_alone p L at (RoundEnd r) shut down may = absurd (never (is_shut L) shut may)
late_alone p L at Shut shut down may = absurd (never (is_shut L) shut may)
late_alone p L at (Own (HangUp q)) shut down may = absurd (never (up L q) may (down q))
late_alone p L at (Lost q loss) shut down may = absurd (never (up L q) may (down q))
late_alone p L at (Part q part) shut down may = absurd may
late_alone p L at (Step step) shut down may = absurd may

next_is_late : (p : Peer) (L : Entries) (at : ℕ) (event : Event) → IsOver p L → IsNext p L at (owed p L).events event → IsLate event
next_is_late p L at event over next = late_alone p L at event over.shut over.down (subst (λ (debt : Debt). IsNext p L at debt.events event) over.settled next)

-- an entry of an RPC that came too late, and one of a shut, change nothing
no_marks : (e : Entry) (x : Effects) → SaysTheSame e.effects x → x.marks ≡ [] → e.effects.marks ≡ []
no_marks e x same none = nil_from_length e.effects.marks (length_permutation x.marks e.effects.marks same.marks ∙ ap length none)

abbrev IsStill : Event → Type 0
IsStill (Late q rpc) = Unit {0}
IsStill Shut = Unit {0}
IsStill other = ⊥

no_marks_of : (p : Peer) (L : Entries) (event : Event) (e : Entry) → IsStill event → Follows free (rule_of p L e.at event) tt e.effects tt → e.effects.marks ≡ []
no_marks_of p L (Late q rpc) e is effects = no_marks e no_effects effects.0 refl
no_marks_of p L Shut e is effects = no_marks e no_effects effects.0 refl
no_marks_of p L other e is effects = absurd is

no_change : (event : Event) (H : History) → IsStill event → changed_after event H ≡ H
no_change (Late q rpc) H is = refl
no_change Shut H is = refl
no_change other H is = absurd is

still_history : (p : Peer) (L : Entries) (e : Entry) → Legal p (e ∷ L) → IsStill e.event → history p (e ∷ L) ≡ history p L
still_history p L e legal is =
    ap (λ (marks : List Mark). after_marks (marked_after p e.at) marks (changed_after e.event (history p L))) (no_marks_of p L e.event e is (legal_newest p e L legal).effects)
    ∙ no_change e.event (history p L) is

-- what comes too late leaves all as it is
late_is_still : (event : Event) → IsLate event → IsStill event
late_is_still (Late q rpc) is = tt
late_is_still other is = absurd is

stays_shut : (event : Event) (before : Bool) → IsLate event → before ≡ true → is_shut_after event before ≡ true
stays_shut (Late q rpc) before is h = h
stays_shut other before is h = absurd is

stays_down : (q : PeerNo) (event : Event) (before : Bool) → IsLate event → before ≡ false → up_after q event before ≡ false
stays_down q (Late r rpc) before is h = h
stays_down q other before is h = absurd is

still_owes : (p : Peer) (L M : Entries) (at : ℕ) (event : Event) (before : Debt) → IsStill event → before ≡ nothing → owing p M (owes p L at event) before ≡ nothing
still_owes p L M at (Late q rpc) before is settled = ap (paid p M) settled
still_owes p L M at Shut before is settled = ap (paid p M) settled
still_owes p L M at other before is settled = absurd is

over_next : (p : Peer) (L : Entries) (e : Entry) → IsLate e.event → IsOver p L → IsOver p (e ∷ L)
over_next p L e is over = record {
  shut = stays_shut e.event (is_shut L) is over.shut;
  down = λ q. stays_down q e.event (up L q) is (over.down q);
  settled = still_owes p L (e ∷ L) e.at.0 e.event (owed p L) (late_is_still e.event is) over.settled;
}

-- a shut comes only where nothing is owed
none_owed : (p : Peer) (L : Entries) (at : ℕ) (events : List Event) → AllByRecursion IsOwed events → IsNext p L at events Shut → events ≡ []
none_owed p L at [] own next = refl
none_owed p L at (first ∷ rest) own next = absurd (subst IsOwed (sym next) own.0)

settled_before : (p : Peer) (L : Entries) (at : ℕ) → IsNext p L at (owed p L).events Shut → owed p L ≡ nothing
settled_before p L at next = no_event_is_nothing p L (none_owed p L at (owed p L).events (owed_are_such p L).0 next)

shut_is : (event : Event) (before : Bool) → event ≡ Shut → is_shut_after event before ≡ true
shut_is event before is = ap (λ (x : Event). is_shut_after x before) is

shut_downs : (q : PeerNo) (event : Event) (before : Bool) → event ≡ Shut → up_after q event before ≡ false
shut_downs q event before is = ap (λ (x : Event). up_after q x before) is

over_at : (p : Peer) (K : Entries) (s : Entry) → Legal p (s ∷ K) → s.event ≡ Shut → IsOver p (s ∷ K)
over_at p K s legal is =
    let next : IsNext p K s.at.0 (owed p K).events Shut = subst (IsNext p K s.at.0 (owed p K).events) is (legal_newest p s K legal).next in
    record {
      shut = shut_is s.event (is_shut K) is;
      down = λ q. shut_downs q s.event (up K q) is;
      settled = still_owes p K (s ∷ K) s.at.0 s.event (owed p K) (subst IsStill (sym is) tt) (settled_before p K s.at.0 next);
    }

over_after : (p : Peer) (M K : Entries) (s : Entry) → Legal p (M ++ s ∷ K) → s.event ≡ Shut → IsOver p (M ++ s ∷ K)
over_after p [] K s legal is = over_at p K s legal is
over_after p (e ∷ M) K s legal is =
    let before : IsOver p (M ++ s ∷ K) = over_after p M K s legal.1 is in
    over_next p (M ++ s ∷ K) e (next_is_late p (M ++ s ∷ K) e.at.0 e.event before (legal_newest p e (M ++ s ∷ K) legal).next) before

pub history_stays : (p : Peer) (M K : Entries) (s : Entry) → Legal p (M ++ s ∷ K) → s.event ≡ Shut → history p (M ++ s ∷ K) ≡ history p K
history_stays p [] K s legal is = still_history p K s legal (subst IsStill (sym is) tt)
history_stays p (e ∷ M) K s legal is =
    let late : IsLate e.event = next_is_late p (M ++ s ∷ K) e.at.0 e.event (over_after p M K s legal.1 is) (legal_newest p e (M ++ s ∷ K) legal).next in
    still_history p (M ++ s ∷ K) e legal (late_is_still e.event late) ∙ history_stays p M K s legal.1 is

pub score_stays : (p : Peer) (M K : Entries) (s : Entry) (at : ℕ) (q : PeerNo) → Legal p (M ++ s ∷ K) → s.event ≡ Shut → score p (M ++ s ∷ K) at q ≡ score p K at q
unfolding score
score_stays p M K s at q legal is = ap (λ (H : History). score_in (setting_of p) at H q (named H q)) (history_stays p M K s legal is)

-- ---- meshes and topics

still_mesh : (p : Peer) (L : Entries) (e : Entry) (t : Topic) → Legal p (e ∷ L) → IsStill e.event → mesh (e ∷ L) t ≡ mesh L t
still_mesh p L e t legal is =
    ap (λ (marks : List Mark). after_marks (mesh_after t) marks (mesh L t)) (no_marks_of p L e.event e is (legal_newest p e L legal).effects)

pub mesh_stays : (p : Peer) (M K : Entries) (s : Entry) (t : Topic) → Legal p (M ++ s ∷ K) → s.event ≡ Shut → mesh (M ++ s ∷ K) t ≡ mesh K t
mesh_stays p [] K s t legal is = still_mesh p K s t legal (subst IsStill (sym is) tt)
mesh_stays p (e ∷ M) K s t legal is =
    let late : IsLate e.event = next_is_late p (M ++ s ∷ K) e.at.0 e.event (over_after p M K s legal.1 is) (legal_newest p e (M ++ s ∷ K) legal).next in
    still_mesh p (M ++ s ∷ K) e t legal (late_is_still e.event late) ∙ mesh_stays p M K s t legal.1 is

still_own : (L : Entries) (event : Event) → IsStill event → ascending (filter (λ (t : Topic). joined_after t event (joined L t)) (known_after event (known L))) ≡ own_topics L
still_own L (Late q rpc) is = refl
still_own L Shut is = refl
still_own L other is = absurd is

pub own_stay : (p : Peer) (M K : Entries) (s : Entry) → Legal p (M ++ s ∷ K) → s.event ≡ Shut → own_topics (M ++ s ∷ K) ≡ own_topics K
own_stay p [] K s legal is = still_own K s.event (subst IsStill (sym is) tt)
own_stay p (e ∷ M) K s legal is =
    let late : IsLate e.event = next_is_late p (M ++ s ∷ K) e.at.0 e.event (over_after p M K s legal.1 is) (legal_newest p e (M ++ s ∷ K) legal).next in
    still_own (M ++ s ∷ K) e.event (late_is_still e.event late) ∙ own_stay p M K s legal.1 is
