-- The table of standings after one more entry.
use Rattle.std.proofs.Common.{◌≡◌, ◌≤◌, ◌<◌, ◌+◌, ℕ, arith, Bool, true, false, if◌then◌else◌, List, [], ◌∷◌, ◌++◌, Option, None, Some, length, take, get_or, refl, sym, ap, ap₂, subst, ◌∙◌}
use Rattle.std.specs.Prelude.{◌&&◌, ◌||◌, nat_lt}
use Rattle.std.proofs.lemmas.List.{take_more}
use Rattle.gs_base.specs.declared.names.PeerNo.{PeerNo}
use Rattle.gs_base.specs.declared.names.Topic.{Topic}
use Rattle.gs_base.specs.declared.names.Millis.{Millis}
use Rattle.gs_base.specs.declared.mark.Mark.{Mark}
use Rattle.gs_base.specs.declared.mark.Mark.TheVariants.{First, Near, Deficit, Invalid, Misbehaviour, Grafted, Pruned}
use Rattle.gs_base.specs.Names.{most_topics}
use Rattle.gs_score.specs.Ledgers.{Kept, has_room}
use Rattle.gs_score.specs.Histories.{Agrees, History, Setting, Marked, accepts, decays}
use Rattle.gs_score.specs.Histories as histories
use Rattle.gs_rules.specs.declared.event.Event.{Event}
use Rattle.gs_rules.specs.declared.event.Event.TheVariants.{Decay}
use Rattle.gs_rules.specs.Peers.{Peer}
use Rattle.gs_rules.specs.Tables.{Entries, after_marks, lost}
use Rattle.gs_rules.specs.Scoring.{change_of, changed_after, has_counters, history, is_counted, marked_after, setting_of, shut_out}
use Rattle.gs_router.specs.declared.tables.standings.Standings.{Standings}
use Rattle.gs_router.specs.Tables.{AgreesOnScores}
use Rattle.gs_router.proofs.Keeping.{marks_more}

-- ---- which marks count

room_so : (p : Peer) (k : Kept) (H : History) (q : PeerNo) (t : Topic) → Agrees (setting_of p) k H → has_room k.accounts q t ≡ has_counters p H q t
room_so p k H q t agrees =
    ap₂ (λ (a b : Bool). a && b) (agrees.neighbours q) (ap₂ (λ (a b : Bool). a || b) (agrees.knows q t) (ap (λ (n : ℕ). nat_lt n most_topics) (agrees.counts q)))

-- Whether a mark counts that is applied to a counter. Who comes into a mesh has no counter raised, so that it may be
-- applied in any case.
abbrev counts_here : Peer → History → Mark → Bool
counts_here p H (Grafted q t) = true
counts_here p H mark = is_counted p H mark

-- the table accepts those that count
accepts_so : (p : Peer) (k : Kept) (H : History) (mark : Mark) → Agrees (setting_of p) k H → accepts k.accounts mark ≡ counts_here p H mark
accepts_so p k H (First q t id) agrees = room_so p k H q t agrees
accepts_so p k H (Near q t id) agrees = room_so p k H q t agrees
accepts_so p k H (Deficit q t z) agrees = room_so p k H q t agrees
accepts_so p k H (Invalid q t) agrees = room_so p k H q t agrees
accepts_so p k H (Misbehaviour q) agrees = agrees.neighbours q
accepts_so p k H other agrees = refl

-- what happened with a mark that raises nothing, or without it
raises_nothing : (s : Setting) (k : Kept) (H : History) (q : PeerNo) (t : Topic) (b : Bool) → Agrees s k (Marked (Grafted q t) ∷ H) → Agrees s k (if b then Marked (Grafted q t) ∷ H else H)
raises_nothing s k H q t true agrees = agrees
raises_nothing s k H q t false agrees = record {
  params = agrees.params;
  neighbours = agrees.neighbours;
  decays = agrees.decays;
  holds = agrees.holds;
  misbehaves = agrees.misbehaves;
  knows = agrees.knows;
  counts = agrees.counts;
  addresses = agrees.addresses;
}

-- one that is accepted is applied
pub counts : (p : Peer) (old new : Kept) (H : History) (mark : Mark) → accepts old.accounts mark ≡ true → ((s : Setting) (J : History) → Agrees s old J → Agrees s new (Marked mark ∷ J)) → Agrees (setting_of p) old H → Agrees (setting_of p) new (if is_counted p H mark then Marked mark ∷ H else H)
counts p old new H (Grafted q t) accepted applied agrees = raises_nothing (setting_of p) new H q t (has_counters p H q t) (applied (setting_of p) H agrees)
counts p old new H mark accepted applied agrees =
    subst (λ (b : Bool). Agrees (setting_of p) new (if b then Marked mark ∷ H else H)) (sym accepted ∙ accepts_so p old H mark agrees) (applied (setting_of p) H agrees)

-- a neighbour comes into a mesh where it has room
pub grafts : (p : Peer) (old new : Kept) (H : History) (q : PeerNo) (t : Topic) (at : Millis) → has_room old.accounts q t ≡ true → ((s : Setting) (J : History) → Agrees s old J → Agrees s new (histories.Grafted q t at ∷ J)) → Agrees (setting_of p) old H → Agrees (setting_of p) new (marked_after p at (Grafted q t) H)
grafts p old new H q t at room grafted agrees =
    subst (λ (b : Bool). Agrees (setting_of p) new (if b then histories.Grafted q t at ∷ H else H)) (sym room ∙ room_so p old H q t agrees) (grafted (setting_of p) H agrees)

-- ---- marks one by one

-- With these marks of a moment noted, what counts follows what happened.
abbrev pub Counting : Millis → List Mark → Standings → Standings → Type 0
Counting at marks old new = (p : Peer) (H : History) → Agrees (setting_of p) old.scores H → Agrees (setting_of p) new.scores (after_marks (marked_after p at) marks H)

pub counts_more : (at : Millis) (marks : List Mark) (i : ℕ) (mark : Mark) (old now new : Standings) → i < length marks → mark ≡ get_or marks i mark
    → ((p : Peer) (H : History) → Agrees (setting_of p) now.scores H → Agrees (setting_of p) new.scores (marked_after p at mark H))
    → Counting at (take i marks) old now → Counting at (take (i + 1) marks) old new
counts_more at marks i mark old now new below is one counting =
    subst (λ (ms : List Mark). Counting at ms old new) (sym (take_more marks i mark below ∙ ap (λ (x : Mark). take i marks ++ x ∷ []) (sym is)))
    (λ p H agrees. subst (Agrees (setting_of p) new.scores) (sym (marks_more (marked_after p at) (take i marks) mark H)) (one p (after_marks (marked_after p at) (take i marks) H) (counting p H agrees)))

-- ---- how often counters decayed

-- no mark lowers a counter
lowers_nothing : (at : Millis) (mark : Mark) (H : History) → decays (change_of at mark ∷ H) ≡ decays H
lowers_nothing at (Grafted q t) H = refl
lowers_nothing at (Pruned q t) H = refl
lowers_nothing at other H = refl

marks_lower_nothing : (p : Peer) (at : Millis) (marks : List Mark) (H : History) → decays (after_marks (marked_after p at) marks H) ≡ decays H
marks_lower_nothing p at [] H = refl
marks_lower_nothing p at (mark ∷ marks) H = marks_lower_nothing p at marks (marked_after p at mark H) ∙ by (is_counted p H mark)
  where
    by : (b : Bool) → decays (if b then change_of at mark ∷ H else H) ≡ decays H
    by true = lowers_nothing at mark H
    by false = refl

a_loss_lowers_nothing : (neighbour : Option PeerNo) (H : History) → decays (shut_out neighbour H) ≡ decays H
a_loss_lowers_nothing None H = refl
a_loss_lowers_nothing (Some q) H = refl

an_event_lowers_once : (event : Event) (H : History) → decays (changed_after event H) ≤ decays H + 1
an_event_lowers_once Decay H = omega arith
an_event_lowers_once other H = let none = a_loss_lowers_nothing (lost other) H in omega (arith, none)

-- no more often than there are entries
decays_are_few : (p : Peer) (L : Entries) → decays (history p L) ≤ length L
decays_are_few p [] = omega arith
decays_are_few p (e ∷ L) =
    let marks = marks_lower_nothing p e.at e.effects.marks (changed_after e.event (history p L)) in
    let once = an_event_lowers_once e.event (history p L) in
    let few = decays_are_few p L in
    omega (arith, marks, once, few)

pub counted_decays_are_few : (p : Peer) (table : Standings) (L : Entries) → AgreesOnScores p table L → table.scores.decays ≤ length L
counted_decays_are_few p table L agrees = let few = decays_are_few p L in omega (arith, agrees.decays, few)
