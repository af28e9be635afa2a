-- Each mark of a legal trace counts in the history that scores are made of.
use Rattle.std.proofs.Common.{◌≡◌, ◌⊎◌, inl, inr, ◌≤◌, ◌<◌, ℕ, suc, Bool, true, false, ◌||◌, if◌then◌else◌, List, [], ◌∷◌, ◌++◌, length, map, reverse, Option, Some, None, refl, sym, ap, subst, ◌∙◌, append_assoc, arith}
use Rattle.std.specs.Prelude.{nat_eq, nat_lt}
use Rattle.std.specs.List.{AllByRecursion, list_any}
use Rattle.std.proofs.lemmas.Bool.{and_parts, lt-ltb}
use Rattle.std.proofs.lemmas.Bool.Decides.{nat_tests}
use Rattle.std.proofs.lemmas.List.{length-append, reverse-append}
use Rattle.gs_base.specs.declared.names.PeerNo.{PeerNo}
use Rattle.gs_base.specs.declared.names.Topic.{Topic}
use Rattle.gs_base.specs.declared.names.Millis.{Millis}
use Rattle.gs_base.specs.declared.mark.Mark.{Mark}
use Rattle.gs_base.specs.declared.mark.Mark.TheVariants.{First, Near, Deficit, Invalid, Misbehaviour, Grafted}
use Rattle.gs_base.specs.Names.{most_topics, same_peer, same_topic}
use Rattle.gs_score.specs.Accounts.{rules_of}
use Rattle.gs_score.specs.Formula.{p3}
use Rattle.gs_score.specs.Histories.{Change, History, Marked, named, named_after, with_topic}
use Rattle.gs_score.specs.Standings.{Held}
use Rattle.gs_score.proofs.Fitting.{apart_more, no_longer}
use Rattle.gs_score.proofs.Naming.{named_apart, named_by_changes, named_covers}
use Rattle.gs_rules.specs.declared.event.Event.{Event}
use Rattle.gs_rules.specs.declared.event.Event.TheVariants.{Decay, Part, Step, Own}
use Rattle.gs_rules.specs.declared.event.RpcPart.TheVariants.{Msg, GraftIn}
use Rattle.gs_rules.specs.declared.event.BeatStep.TheVariants.{MeshBeat}
use Rattle.gs_plan.specs.declared.plan.Act.TheVariants.{Subscribe}
use Rattle.gs_rules.specs.declared.trace.Entry.{Entry}
use Rattle.gs_rules.specs.Peers.{Peer, is_neighbour}
use Rattle.gs_rules.specs.Tables.{Entries, after_marks, joined, known, known_after, lost}
use Rattle.gs_rules.specs.Membership.{missing}
use Rattle.gs_rules.specs.Scoring.{IsFromNeighbour, change_of, changed_after, has_counters, history, is_counted, marked_after, shut_out}
use Rattle.gs_rules.specs.Owed.{owed}
use Rattle.gs_rules.specs.Legal.{IsNext, Legal}
use Rattle.gs_rules.proofs.Each.{each_weaker}
use Rattle.gs_rules.proofs.Owed.{opens}
use Rattle.gs_rules.proofs.OwnBeats.{IsOfOwn, next_of_own}
use Rattle.gs_rules.proofs.Topics.{joined_known, still_known}
use Rattle.gs_rules.proofs.Legality.{legal_newest}
use Rattle.gs_rules.proofs.Marks.{ComesOf, GraftedBy, MayMark}
use Rattle.gs_rules.proofs.EntryMarks.{entry_marks}
use Rattle.gs_rules.proofs.Members.{joins_then, member_joined, never, one_peer}

-- the topic is one of these
abbrev IsOf : List Topic → Topic → Type 0
IsOf ts t = list_any (same_topic t) ts ≡ true

-- ---- topics that the peer was ever subscribed to

-- none is forgotten
stays_known : (event : Event) (before : List Topic) (u : Topic) → IsOf before u → IsOf (known_after event before) u
stays_known (Own (Subscribe t)) before u is = still_known u t (list_any (same_topic t) before) before is
stays_known other before u is = is

-- with one topic more, where there is room for it, the known ones are not too many
few_after : (t : Topic) (is_known : Bool) (before : List Topic) → length before ≤ most_topics → (is_known || nat_lt (length before) most_topics) ≡ true → length (if is_known then before else before ++ t ∷ []) ≤ most_topics
few_after t true before few room = few
few_after t false before few room =
    let less : length before < most_topics = grind (arith, nat_tests) in
    omega (arith, less, length-append before (t ∷ []))

few_next : (p : Peer) (L : Entries) (at : ℕ) (event : Event) → IsNext p L at (owed p L).events event → length (known L) ≤ most_topics → length (known_after event (known L)) ≤ most_topics
few_next p L at (Own (Subscribe t)) next few = few_after t (list_any (same_topic t) (known L)) (known L) few (opens p L at (Own (Subscribe t)) (λ h. h) next).room
few_next p L at other next few = few

few_known : (p : Peer) (L : Entries) → Legal p L → length (known L) ≤ most_topics
few_known p [] legal = omega arith
few_known p (e ∷ L) legal = few_next p L e.at.0 e.event (legal_newest p e L legal).next (few_known p L legal.1)

-- ---- what marks concern

-- where a mark raises a counter on a topic, the topic is one of these
abbrev IsOn : List Topic → Mark → Type 0
IsOn ts (First q t id) = IsOf ts t
IsOn ts (Near q t id) = IsOf ts t
IsOn ts (Deficit q t z) = IsOf ts t
IsOn ts (Invalid q t) = IsOf ts t
IsOn ts (Grafted q t) = IsOf ts t
IsOn ts other = Unit {0}

-- where it counts for or against somebody, that is a neighbour
abbrev IsOfNeighbour : Peer → Mark → Type 0
IsOfNeighbour p (First q t id) = is_neighbour p q ≡ true
IsOfNeighbour p (Near q t id) = is_neighbour p q ≡ true
IsOfNeighbour p (Deficit q t z) = is_neighbour p q ≡ true
IsOfNeighbour p (Invalid q t) = is_neighbour p q ≡ true
IsOfNeighbour p (Misbehaviour q) = is_neighbour p q ≡ true
IsOfNeighbour p (Grafted q t) = is_neighbour p q ≡ true
IsOfNeighbour p other = Unit {0}

-- what is raised, and where somebody is in a mesh, is on topics that the peer is or was subscribed to
mark_on : (p : Peer) (L : Entries) (e : Entry) → Legal p L → IsOfOwn L e.event → (mark : Mark) → MayMark p L e.at.0 e.event mark → IsOn (known (e ∷ L)) mark
mark_on p L e legal own (First q t id) may = stays_known e.event (known L) t (joined_known L t may.1)
mark_on p L e legal own (Near q t id) may = stays_known e.event (known L) t (joined_known L t may.1)
mark_on p L e legal own (Invalid q t) may = stays_known e.event (known L) t (joined_known L t may.1)
mark_on p L e legal own (Deficit q t z) may = stays_known e.event (known L) t (joined_known L t (member_joined p L q t legal may.0))
mark_on p L e legal own (Grafted q t) may = joined_known (e ∷ L) t (joins_then L e.event t own may.joins)
mark_on p L e legal own other may = tt

marks_on : (p : Peer) (L : Entries) (e : Entry) → Legal p (e ∷ L) → AllByRecursion (IsOn (known (e ∷ L))) e.effects.marks
marks_on p L e legal =
    each_weaker (MayMark p L e.at.0 e.event) (IsOn (known (e ∷ L))) (mark_on p L e legal.1 (next_of_own p L e.at.0 e.event legal.1 (legal_newest p e L legal).next)) e.effects.marks
    (entry_marks p L e.event e (legal_newest p e L legal).effects)

-- ---- who is no neighbour

-- nothing is named of who is none
module _ (p : Peer) (q : PeerNo) (far : is_neighbour p q ≡ false) where
  named_if : (r : PeerNo) (t : Topic) (ts : List Topic) (same : Bool) → same_peer r q ≡ same → is_neighbour p r ≡ true → ts ≡ [] → (if same then with_topic t ts else ts) ≡ []
  named_if r t ts true is near none = absurd (never (is_neighbour p q) (subst (λ (s : PeerNo). is_neighbour p s ≡ true) (one_peer r q is) near) far)
  named_if r t ts false is near none = none

  counted_if : (H : History) (c : Change) (r : PeerNo) (t : Topic) → named (c ∷ H) q ≡ (if same_peer r q then with_topic t (named H q) else named H q) → named H q ≡ [] → (counts : Bool) → has_counters p H r t ≡ counts → named (if counts then c ∷ H else H) q ≡ []
  counted_if H c r t names none true is =
      names ∙ named_if r t (named H q) (same_peer r q) refl (and_parts (is_neighbour p r) (list_any (same_topic t) (named H r) || nat_lt (length (named H r)) most_topics) is).0 none
  counted_if H c r t names none false is = none

  mark_unnamed : (at : Millis) (mark : Mark) (H : History) → named H q ≡ [] → named (marked_after p at mark H) q ≡ []
  mark_unnamed at (First r t id) H none = counted_if H (Marked (First r t id)) r t refl none (has_counters p H r t) refl
  mark_unnamed at (Near r t id) H none = counted_if H (Marked (Near r t id)) r t refl none (has_counters p H r t) refl
  mark_unnamed at (Deficit r t z) H none = counted_if H (Marked (Deficit r t z)) r t refl none (has_counters p H r t) refl
  mark_unnamed at (Invalid r t) H none = counted_if H (Marked (Invalid r t)) r t refl none (has_counters p H r t) refl
  mark_unnamed at (Grafted r t) H none = counted_if H (change_of at (Grafted r t)) r t refl none (has_counters p H r t) refl
  mark_unnamed at (Misbehaviour r) H none = by (is_neighbour p r)
    where
      by : (counts : Bool) → named (if counts then Marked (Misbehaviour r) ∷ H else H) q ≡ []
      by true = none
      by false = none
  mark_unnamed at other H none = none

  marks_unnamed : (at : Millis) (marks : List Mark) (H : History) → named H q ≡ [] → named (after_marks (marked_after p at) marks H) q ≡ []
  marks_unnamed at [] H none = none
  marks_unnamed at (mark ∷ marks) H none = marks_unnamed at marks (marked_after p at mark H) (mark_unnamed at mark H none)

  out_unnamed : (who : Option PeerNo) (H : History) → named H q ≡ [] → named (shut_out who H) q ≡ []
  out_unnamed None H none = none
  out_unnamed (Some r) H none = none

  event_unnamed : (event : Event) (H : History) → named H q ≡ [] → named (changed_after event H) q ≡ []
  event_unnamed Decay H none = none
  event_unnamed other H none = out_unnamed (lost other) H none

  unnamed : (L : Entries) → named (history p L) q ≡ []
  unnamed [] = refl
  unnamed (e ∷ L) = marks_unnamed e.at e.effects.marks (changed_after e.event (history p L)) (event_unnamed e.event (history p L) (unnamed L))

  -- so that nothing is missing of it
  none_missing : (L : Entries) (at : ℕ) (t : Topic) → nat_eq (missing p L at (q, t)) 0 ≡ true
  none_missing L at t =
      ap (λ (h : Held). nat_eq (p3 (rules_of p.params t) at h) 0)
      ((named_covers p.params (history p L) q).all t (ap (λ (ts : List Topic). list_any (same_topic t) ts) (unnamed L)))

missing_near : (p : Peer) (L : Entries) (at : ℕ) (q : PeerNo) (t : Topic) → nat_eq (missing p L at (q, t)) 0 ≡ false → is_neighbour p q ≡ true
missing_near p L at q t some = by (is_neighbour p q) refl
  where
    by : (near : Bool) → is_neighbour p q ≡ near → near ≡ true
    by true is = refl
    by false is = absurd (never (nat_eq (missing p L at (q, t)) 0) (none_missing p q is L at t) some)

-- ---- the neighbours that marks concern

come_near : (p : Peer) (event : Event) (q : PeerNo) → IsFromNeighbour p event → ComesOf event q → is_neighbour p q ≡ true
come_near p (Part r (Msg m)) q near is = subst (λ (s : PeerNo). is_neighbour p s ≡ true) (sym is) near
come_near p (Part r (GraftIn graft)) q near is = subst (λ (s : PeerNo). is_neighbour p s ≡ true) (sym is) near
come_near p other q near is = absurd is

pub grafted_near : (p : Peer) (L : Entries) (event : Event) (q : PeerNo) → IsFromNeighbour p event → GraftedBy p L event q → is_neighbour p q ≡ true
grafted_near p L (Part r (GraftIn graft)) q near is = subst (λ (s : PeerNo). is_neighbour p s ≡ true) (sym is) near
grafted_near p L (Own (Subscribe t)) q near is = is.0
grafted_near p L (Step (MeshBeat t)) q near is = is.0
grafted_near p L other q near is = absurd is

blamed_near : (p : Peer) (event : Event) (q : PeerNo) → IsFromNeighbour p event → ComesOf event q ⊎ (is_neighbour p q ≡ true) → is_neighbour p q ≡ true
blamed_near p event q near (inl is) = come_near p event q near is
blamed_near p event q near (inr is) = is

mark_of : (p : Peer) (L : Entries) (at : ℕ) (event : Event) → IsFromNeighbour p event → (mark : Mark) → MayMark p L at event mark → IsOfNeighbour p mark
mark_of p L at event near (First q t id) may = come_near p event q near may.0
mark_of p L at event near (Near q t id) may = come_near p event q near may.0
mark_of p L at event near (Invalid q t) may = come_near p event q near may.0
mark_of p L at event near (Deficit q t z) may = missing_near p L at q t may.1
mark_of p L at event near (Misbehaviour q) may = blamed_near p event q near may
mark_of p L at event near (Grafted q t) may = grafted_near p L event q near may.who
mark_of p L at event near other may = tt

marks_of : (p : Peer) (L : Entries) (e : Entry) → Legal p (e ∷ L) → IsFromNeighbour p e.event → AllByRecursion (IsOfNeighbour p) e.effects.marks
marks_of p L e legal near =
    each_weaker (MayMark p L e.at.0 e.event) (IsOfNeighbour p) (mark_of p L e.at.0 e.event near) e.effects.marks
    (entry_marks p L e.event e (legal_newest p e L legal).effects)

-- ---- what a history names

-- a change names only these topics, for a neighbour
abbrev Names : List Topic → PeerNo → Change → Type 0
Names ts q c = AllByRecursion (IsOf ts) (named_after q c [])

-- all changes of a history name only these topics, for each neighbour
abbrev NamesOf : List Topic → History → Type 0
NamesOf ts H = (q : PeerNo) → AllByRecursion (Names ts q) H

one_named : (ts : List Topic) (t : Topic) (same : Bool) → IsOf ts t → AllByRecursion (IsOf ts) (if same then t ∷ [] else [])
one_named ts t true is = (is, tt)
one_named ts t false is = tt

mark_names : (ts : List Topic) (q : PeerNo) (at : Millis) (mark : Mark) → IsOn ts mark → Names ts q (change_of at mark)
mark_names ts q at (First r t id) is = one_named ts t (same_peer r q) is
mark_names ts q at (Near r t id) is = one_named ts t (same_peer r q) is
mark_names ts q at (Deficit r t z) is = one_named ts t (same_peer r q) is
mark_names ts q at (Invalid r t) is = one_named ts t (same_peer r q) is
mark_names ts q at (Grafted r t) is = one_named ts t (same_peer r q) is
mark_names ts q at other is = tt

out_names : (ts : List Topic) (who : Option PeerNo) (H : History) → NamesOf ts H → NamesOf ts (shut_out who H)
out_names ts None H names = names
out_names ts (Some r) H names = λ q. (tt, names q)

changed_names : (ts : List Topic) (event : Event) (H : History) → NamesOf ts H → NamesOf ts (changed_after event H)
changed_names ts Decay H names = λ q. (tt, names q)
changed_names ts other H names = out_names ts (lost other) H names

marks_name : (p : Peer) (ts : List Topic) (at : Millis) (marks : List Mark) (H : History) → AllByRecursion (IsOn ts) marks → NamesOf ts H → NamesOf ts (after_marks (marked_after p at) marks H)
marks_name p ts at [] H all names = names
marks_name p ts at (mark ∷ marks) H all names = marks_name p ts at marks (marked_after p at mark H) all.1 (by (is_counted p H mark))
  where
    by : (counts : Bool) → NamesOf ts (if counts then change_of at mark ∷ H else H)
    by true = λ q. (mark_names ts q at mark all.0, names q)
    by false = names

names_more : (ts us : List Topic) (H : History) → ((t : Topic) → IsOf ts t → IsOf us t) → NamesOf ts H → NamesOf us H
names_more ts us H more names = λ q. each_weaker (Names ts q) (Names us q) (λ c is. each_weaker (IsOf ts) (IsOf us) more (named_after q c []) is) H (names q)

-- topics that the peer was ever subscribed to
history_names : (p : Peer) (L : Entries) → Legal p L → NamesOf (known L) (history p L)
history_names p [] legal = λ q. tt
history_names p (e ∷ L) legal =
    marks_name p (known (e ∷ L)) e.at e.effects.marks (changed_after e.event (history p L)) (marks_on p L e legal)
    (changed_names (known (e ∷ L)) e.event (history p L) (names_more (known L) (known (e ∷ L)) (history p L) (stays_known e.event (known L)) (history_names p L legal.1)))

-- ---- each mark counts

has_room : (p : Peer) (ts : List Topic) (H : History) (q : PeerNo) (t : Topic) → length ts ≤ most_topics → NamesOf ts H → is_neighbour p q ≡ true → IsOf ts t → has_counters p H q t ≡ true
has_room p ts H q t few names neighbour is = by (list_any (same_topic t) (named H q)) refl
  where
    all : AllByRecursion (IsOf ts) (named H q)
    all = named_by_changes (IsOf ts) H q (names q)

    by : (b : Bool) → list_any (same_topic t) (named H q) ≡ b → has_counters p H q t ≡ true
    by true e = rw (neighbour, e) refl
    by false e =
        let fits : suc (length (named H q)) ≤ length ts = no_longer (t ∷ named H q) ts (apart_more t (named H q) e (named_apart H q)) (is, all) in
        let less : length (named H q) < most_topics = omega (arith, fits, few) in
        rw (neighbour, e) (lt-ltb (length (named H q)) most_topics less)

mark_counts : (p : Peer) (ts : List Topic) (H : History) (mark : Mark) → length ts ≤ most_topics → NamesOf ts H → IsOn ts mark → IsOfNeighbour p mark → is_counted p H mark ≡ true
mark_counts p ts H (First q t id) few names on of = has_room p ts H q t few names of on
mark_counts p ts H (Near q t id) few names on of = has_room p ts H q t few names of on
mark_counts p ts H (Deficit q t z) few names on of = has_room p ts H q t few names of on
mark_counts p ts H (Invalid q t) few names on of = has_room p ts H q t few names of on
mark_counts p ts H (Misbehaviour q) few names on of = of
mark_counts p ts H (Grafted q t) few names on of = has_room p ts H q t few names of on
mark_counts p ts H other few names on of = refl

put_first : (at : Millis) (mark : Mark) (marks : List Mark) (H : History) → reverse (map (change_of at) marks) ++ (change_of at mark ∷ H) ≡ reverse (map (change_of at) (mark ∷ marks)) ++ H
put_first at mark marks H =
    let turned : reverse (map (change_of at) (mark ∷ marks)) ≡ reverse (map (change_of at) marks) ++ change_of at mark ∷ [] = reverse-append (change_of at mark ∷ []) (map (change_of at) marks) in
    sym (ap (λ (G : History). G ++ H) turned ∙ append_assoc (reverse (map (change_of at) marks)) (change_of at mark ∷ []) H)

marks_count : (p : Peer) (ts : List Topic) (at : Millis) (marks : List Mark) (H : History) → length ts ≤ most_topics → NamesOf ts H → AllByRecursion (IsOn ts) marks → AllByRecursion (IsOfNeighbour p) marks → after_marks (marked_after p at) marks H ≡ reverse (map (change_of at) marks) ++ H
marks_count p ts at [] H few names on of = refl
marks_count p ts at (mark ∷ marks) H few names on of =
    ap (λ (counts : Bool). after_marks (marked_after p at) marks (if counts then change_of at mark ∷ H else H)) (mark_counts p ts H mark few names on.0 of.0)
    ∙ marks_count p ts at marks (change_of at mark ∷ H) few (λ q. (mark_names ts q at mark on.0, names q)) on.1 of.1
    ∙ put_first at mark marks H

pub all_marks_count : (p : Peer) (L : Entries) (e : Entry) → Legal p (e ∷ L) → IsFromNeighbour p e.event → history p (e ∷ L) ≡ reverse (map (change_of e.at) e.effects.marks) ++ changed_after e.event (history p L)
all_marks_count p L e legal near =
    marks_count p (known (e ∷ L)) e.at e.effects.marks (changed_after e.event (history p L)) (few_known p (e ∷ L) legal)
    (changed_names (known (e ∷ L)) e.event (history p L) (names_more (known L) (known (e ∷ L)) (history p L) (stays_known e.event (known L)) (history_names p L legal.1)))
    (marks_on p L e legal) (marks_of p L e legal near)

pub room_on_joined : (p : Peer) (L : Entries) (q : PeerNo) (t : Topic) → Legal p L → is_neighbour p q ≡ true → joined L t ≡ true → has_counters p (history p L) q t ≡ true
room_on_joined p L q t legal neighbour on = has_room p (known L) (history p L) q t (few_known p L legal) (history_names p L legal) neighbour (joined_known L t on)
