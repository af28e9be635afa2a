-- One more entry of a router's trace.
use Rattle.std.proofs.Common.{◌≡◌, ◌≢◌, ◌≤◌, ◌<◌, ◌+◌, ℕ, drop, get_or, length, Bool, false, if◌then◌else◌, List, [], ◌∷◌, ◌++◌, Result, Ok, Err, refl, sym, ap, ap₂, subst, subst₂, ◌∙◌, inl, inr}
use Rattle.std.proofs.lemmas.List.{drop_more}
use Rattle.std.proofs.lemmas.Option.{unwrap_or-slice_get}
use Rattle.std.specs.Prelude.{OnOk, OnErr, IsErr}
use Rattle.gs_base.specs.declared.names.PeerNo.{PeerNo}
use Rattle.gs_base.specs.declared.names.Millis.{Millis}
use Rattle.gs_base.specs.declared.rpc.Rpc.{Rpc}
use Rattle.gs_base.specs.Rpcs.{part_at}
use Rattle.gs_rules.specs.declared.event.Event.{Event}
use Rattle.gs_rules.specs.declared.event.Event.TheVariants.{Heard, BeatBegin}
use Rattle.gs_rules.specs.declared.trace.Effects.{Effects}
use Rattle.gs_rules.specs.declared.trace.Entry.{Entry}
use Rattle.gs_rules.specs.Peers.{Peer}
use Rattle.gs_rules.specs.Tables.{Entries, last_moment}
use Rattle.gs_rules.specs.Scoring.{is_graylisted}
use Rattle.gs_rules.specs.Owed.{Debt, Group, PartsOf, events_in, heartbeat_groups, nothing, owed, owes, owing, paid, reached}
use Rattle.gs_rules.specs.Parts.{parts}
use Rattle.gs_rules.specs.Rules.{rule_of}
use Rattle.gs_rules.specs.Modes.{Mode, Follows, free}
use Rattle.gs_rules.specs.Legal.{Legal, LegalOn, IsNext, MayOpen, Begins}
use Rattle.gs_rules.proofs.Owed.{owes_none}
use Rattle.gs_rules.proofs.Legality.{Weakens, legal_on, legal_one, legal_then, legal_weakly}
use Rattle.gs_router.specs.declared.setup.Setup.{Setup}
use Rattle.gs_router.specs.declared.state.State.{State}
use Rattle.gs_router.specs.Tables.{Agrees, AgreesOnScores, AreMadeFor}
use Rattle.gs_router.specs.Known.{IsFit, Knows, peer_with}
use Rattle.gs_router.specs.State.{Appends, IsCurrent, IsReady, Paying, Steps, WorkEnds, left_with}

-- ---- what a router knows

-- it knows its own trace
pub knows : {K : Type 0} (s : State K) (now : ℕ) → IsCurrent s → last_moment s.trace ≤ now → Knows s.known now s.trace
knows s now current time = record { agrees = current.agrees; scores = current.scores; made = current.made; time = time; explicit = current.fit.explicit }

-- ---- steps

-- an entry is its moment, its event and its effects
abbrev entry_of : Millis → Event → Effects → Entry
entry_of now event effects = record { at = now; event = event; effects = effects }

-- any way to choose by which no more is legal
module _ (m : Mode) (weakens : Weakens m free (λ u. tt)) where
  -- the choices that led to entries leave the whole legal
  appended_legal : (p : Peer) (K L : Entries) (s t : m.State) → Legal p K → Appends m p K s L t → Legal p L
  appended_legal p K L s t legal a = subst (Legal p) (sym a.are) (legal_on p K a.entries legal (legal_weakly m free (λ u. tt) weakens p s t K a.entries a.legal))

  module _ {A E : Type 0} where
    -- an entry of effects that follow the rule was appended, or memory ran out
    pub followed : {K : Type 0} (event : Event) (now : Millis) (a b : State K) (s t : m.State) (effects : Effects) (done : Result A E) → IsCurrent a → last_moment a.trace ≤ now.0 → IsNext (peer_with a.known.setup) a.trace now.0 (owed (peer_with a.known.setup) a.trace).events event → Follows m (rule_of (peer_with a.known.setup) a.trace now event) s effects t → OnOk done (b.trace ≡ entry_of now event effects ∷ a.trace) → OnOk done ((L : Entries) → Agrees a.known.tables L → Agrees b.known.tables (entry_of now event effects ∷ L)) → OnOk done ((p : Peer) (L : Entries) → AgreesOnScores p a.known.tables.standings L → AgreesOnScores p b.known.tables.standings (entry_of now event effects ∷ L)) → OnOk done ((p : Peer) → AreMadeFor a.known.tables p → AreMadeFor b.known.tables p) → OnErr done (b.trace ≡ a.trace) → b.known.setup ≡ a.known.setup → Steps m event now a s done b t
    followed event now a b s t effects (Ok x) current time next follows added agrees scores made kept setup =
        let p = peer_with a.known.setup in
        let one = legal_one m p s t a.trace (entry_of now event effects) (record { time = time; next = next; effects = follows }) in
        record {
          added = record { entry = entry_of now event effects; added = added; moment = refl; opened = refl; legal = one };
          current = record {
            legal = subst (λ (g : Setup). Legal (peer_with g) b.trace) (sym setup) (appended_legal p a.trace b.trace s t current.legal (record { entries = entry_of now event effects ∷ []; are = added; legal = one }));
            agrees = subst (λ (L : Entries). Agrees b.known.tables L) (sym added) (agrees a.trace current.agrees);
            scores = subst₂ (λ (g : Setup) (L : Entries). AgreesOnScores (peer_with g) b.known.tables.standings L) (sym setup) (sym added) (scores (peer_with a.known.setup) a.trace current.scores);
            made = subst (λ (g : Setup). AreMadeFor b.known.tables (peer_with g)) (sym setup) (made (peer_with a.known.setup) current.made);
            fit = subst IsFit (sym setup) current.fit;
          };
          kept = tt;
          setup = setup;
        }
    followed event now a b s t effects (Err x) current time next follows added agrees scores made kept setup = record { added = tt; current = tt; kept = kept; setup = setup }

    -- memory ran out before anything came
    pub breaks_off : {K : Type 0} (event : Event) (now : Millis) (a b : State K) (s t : m.State) (e : E) → IsCurrent a → b.trace ≡ a.trace → b.known.setup ≡ a.known.setup → WorkEnds {A = A} {E = E} m event now a s (Err e) b t
    breaks_off event now a b s t e current kept setup = record {
      opened = tt;
      appended = tt;
      ready = tt;
      broken = inl kept;
      before = (s, record { entries = []; are = kept; legal = refl });
      legal = subst₂ (λ (g : Setup) (L : Entries). Legal (peer_with g) L) (sym setup) (sym kept) current.legal;
      setup = setup;
    }

    pub stops : {K : Type 0} (event : Event) (now : Millis) (a b : State K) (s t : m.State) (done : Result A E) → IsErr done → IsCurrent a → b.trace ≡ a.trace → b.known.setup ≡ a.known.setup → WorkEnds m event now a s done b t
    stops event now a b s t (Ok x) fails current kept setup = absurd cc
    stops event now a b s t (Err e) fails current kept setup = breaks_off event now a b s t e current kept setup

    -- an event that owes nothing comes with its step
    pub opens_alone : {K : Type 0} (event : Event) (now : Millis) (a b : State K) (s t : m.State) (done : Result A E) → IsReady a → owes (peer_with a.known.setup) a.trace now.0 event ≡ [] → Steps m event now a s done b t → WorkEnds m event now a s done b t
    opens_alone event now a b s t (Ok x) ready none steps =
        let one = steps.added in
        let p = peer_with a.known.setup in
        let after : owed p b.trace ≡ nothing = ap (owed p) one.added
        ∙ ap₂ (λ (at : Millis) (ev : Event). owing p (one.entry ∷ a.trace) (owes p a.trace at.0 ev) (owed p a.trace)) one.moment one.opened
        ∙ owes_none p a.trace (one.entry ∷ a.trace) now.0 event (owed p a.trace) none
        ∙ ap (paid p (one.entry ∷ a.trace)) ready.settled in
        record {
          opened = record {
            begun = record { first = one.entry; paid = []; entries = one.added; opened = one.opened; moment = one.moment; payments = tt };
            settled = after;
          };
          appended = record { entries = one.entry ∷ []; are = one.added; legal = one.legal };
          ready = record { current = steps.current; settled = subst (λ (g : Setup). owed (peer_with g) b.trace ≡ nothing) (sym steps.setup) after };
          broken = tt;
          before = tt;
          legal = steps.current.legal;
          setup = steps.setup;
        }
    opens_alone event now a b s t (Err e) ready none steps = breaks_off event now a b s t e ready.current steps.kept steps.setup

-- it may come where nothing is owed
pub next_opens : (p : Peer) (L : Entries) (at : ℕ) (event : Event) → owed p L ≡ nothing → MayOpen p L at event → IsNext p L at (owed p L).events event
next_opens p L at event settled may = subst (λ (debt : Debt). IsNext p L at debt.events event) (sym settled) may

-- ---- what is owed is paid

-- what is left of a list, with the next in front
pub next_left : {X : Type 0} (xs : List X) (place : ℕ) (x : X) → place < length xs → x ≡ get_or xs place x → drop place xs ≡ x ∷ drop (place + 1) xs
next_left xs place x below there = drop_more xs place x below ∙ ap (λ y. y ∷ drop (place + 1) xs) (sym there)

-- the part at a place comes next of those from there on
pub next_part : {X : Type 0} (bare : X) (parts : List X) (place : ℕ) (x : X) → place < length parts → x ≡ part_at bare parts place → drop place parts ≡ x ∷ drop (place + 1) parts
next_part bare parts place x below there =
    drop_more parts place bare below ∙ ap (λ y. y ∷ drop (place + 1) parts) (sym (there ∙ unwrap_or-slice_get parts place bare))

not_nil : {X : Type 0} (x : X) (xs ys : List X) → ys ≡ x ∷ xs → ys ≢ []
not_nil x xs [] is = absurd cc
not_nil x xs (y ∷ ys) is = λ none. absurd cc

-- what is owed first may come
pub next_due : {K : Type 0} (m : Mode) (now : Millis) (event first : Event) (rest : List Event) (groups : List Group) (a b : State K) (s t : m.State) → Paying m now event a s b t (first ∷ rest) groups → IsNext (peer_with b.known.setup) b.trace now.0 (owed (peer_with b.known.setup) b.trace).events first
next_due m now event first rest groups a b s t h =
    let owed_first : owed (peer_with b.known.setup) b.trace ≡ record { events = first ∷ rest; groups = groups } = ap (λ (g : Setup). owed (peer_with g) b.trace) h.setup ∙ h.owes in
    subst (λ (debt : Debt). IsNext (peer_with b.known.setup) b.trace now.0 debt.events first) (sym owed_first) refl

-- where nothing is left of a group, the next one is reached
pub pays_group : {K : Type 0} (m : Mode) (now : Millis) (event : Event) (group : Group) (groups : List Group) (a b : State K) (s t : m.State) → Paying m now event a s b t [] (group ∷ groups) → Paying m now event a s b t (events_in (peer_with a.known.setup) b.trace group) groups
pays_group m now event group groups a b s t h = record {
  current = h.current;
  setup = h.setup;
  moment = h.moment;
  owes = h.owes;
  begun = h.begun;
  appended = h.appended;
}

module _ (m : Mode) {A E : Type 0} where
  -- an RPC that is not heard in vain owes its parts
  pub hears_first : {K : Type 0} (now : Millis) (q : PeerNo) (rpc : Rpc) (a b : State K) (s t : m.State) (x : A) → is_graylisted (peer_with a.known.setup) a.trace now.0 q ≡ false → Steps {A = A} {E = E} m (Heard q rpc) now a s (Ok x) b t → Paying m now (Heard q rpc) a s b t (parts q rpc) []
  hears_first now q rpc a b s t x listened steps =
      let one = steps.added in
      let p = peer_with a.known.setup in
      record {
        current = steps.current;
        setup = steps.setup;
        moment = ap last_moment one.added ∙ ap (λ (at : Millis). at.0) one.moment;
        owes = ap (owed p) one.added
            ∙ ap₂ (λ (at : Millis) (ev : Event). owing p (one.entry ∷ a.trace) (owes p a.trace at.0 ev) (owed p a.trace)) one.moment one.opened
            ∙ ap (λ (in_vain : Bool). owing p (one.entry ∷ a.trace) (if in_vain then [] else PartsOf q rpc ∷ []) (owed p a.trace)) listened;
        begun = record { first = one.entry; paid = []; entries = one.added; opened = one.opened; moment = one.moment; payments = tt };
        appended = record { entries = one.entry ∷ []; are = one.added; legal = one.legal };
      }

  -- a heartbeat owes what it does to meshes, to fanouts and by gossip
  pub beats_first : {K : Type 0} (now : Millis) (a b : State K) (s t : m.State) (x : A) → Steps {A = A} {E = E} m BeatBegin now a s (Ok x) b t → Paying m now BeatBegin a s b t [] (heartbeat_groups now.0)
  beats_first now a b s t x steps =
      let one = steps.added in
      let p = peer_with a.known.setup in
      record {
        current = steps.current;
        setup = steps.setup;
        moment = ap last_moment one.added ∙ ap (λ (at : Millis). at.0) one.moment;
        owes = ap (owed p) one.added
            ∙ ap₂ (λ (at : Millis) (ev : Event). owing p (one.entry ∷ a.trace) (owes p a.trace at.0 ev) (owed p a.trace)) one.moment one.opened
            ∙ ap (λ (L : Entries). reached p L (heartbeat_groups now.0)) (sym one.added);
        begun = record { first = one.entry; paid = []; entries = one.added; opened = one.opened; moment = one.moment; payments = tt };
        appended = record { entries = one.entry ∷ []; are = one.added; legal = one.legal };
      }

  -- one more event of the group is paid, which owes nothing itself
  pub pays_next : {K : Type 0} (now : Millis) (event first : Event) (rest : List Event) (groups : List Group) (a b c : State K) (s t u : m.State) (x : A) → Paying m now event a s b t (first ∷ rest) groups → owes (peer_with a.known.setup) b.trace now.0 first ≡ [] → Steps {A = A} {E = E} m first now b t (Ok x) c u → Paying m now event a s c u rest groups
  pays_next now event first rest groups a b c s t u x h alone steps =
      let one = steps.added in
      let p = peer_with a.known.setup in
      let behind : LegalOn m p t (h.appended.entries ++ a.trace) (one.entry ∷ []) u = subst₂ (λ (g : Setup) (L : Entries). LegalOn m (peer_with g) t L (one.entry ∷ []) u) h.setup h.appended.are one.legal in
      record {
        current = steps.current;
        setup = steps.setup ∙ h.setup;
        moment = ap last_moment one.added ∙ ap (λ (at : Millis). at.0) one.moment;
        owes = ap (owed p) one.added
            ∙ ap₂ (λ (at : Millis) (ev : Event). owing p (one.entry ∷ b.trace) (owes p b.trace at.0 ev) (owed p b.trace)) one.moment one.opened
            ∙ owes_none p b.trace (one.entry ∷ b.trace) now.0 first (owed p b.trace) alone
            ∙ ap (paid p (one.entry ∷ b.trace)) h.owes
            ∙ ap (λ (L : Entries). left_with p L rest groups) (sym one.added);
        begun = record {
          first = h.begun.first;
          paid = one.entry ∷ h.begun.paid;
          entries = one.added ∙ ap (λ (L : Entries). one.entry ∷ L) h.begun.entries;
          opened = h.begun.opened;
          moment = h.begun.moment;
          payments = (one.moment, not_nil first rest (owed p (h.begun.paid ++ h.begun.first ∷ a.trace)).events (sym (ap (λ (L : Entries). (owed p L).events) h.begun.entries) ∙ ap (λ (debt : Debt). debt.events) h.owes), h.begun.payments);
        };
        appended = record {
          entries = one.entry ∷ h.appended.entries;
          are = one.added ∙ ap (λ (L : Entries). one.entry ∷ L) h.appended.are;
          legal = legal_then m p s t u a.trace h.appended.entries (one.entry ∷ []) h.appended.legal behind;
        };
      }

  -- nothing is left to pay
  pub pays_all : {K : Type 0} (now : Millis) (event : Event) (a b : State K) (s t : m.State) (x : A) → Paying m now event a s b t [] [] → WorkEnds {A = A} {E = E} m event now a s (Ok x) b t
  pays_all now event a b s t x h = record {
    opened = record { begun = h.begun; settled = h.owes };
    appended = h.appended;
    ready = record { current = h.current; settled = ap (λ (g : Setup). owed (peer_with g) b.trace) h.setup ∙ h.owes };
    broken = tt;
    before = tt;
    legal = h.current.legal;
    setup = h.setup;
  }

  -- memory ran out for what is owed
  pub pays_some : {K : Type 0} (now : Millis) (event : Event) (left : List Event) (groups : List Group) (a b c : State K) (s t u : m.State) (done : Result A E) → IsErr done → Paying m now event a s b t left groups → c.trace ≡ b.trace → c.known.setup ≡ b.known.setup → WorkEnds m event now a s done c u
  pays_some now event left groups a b c s t u (Ok x) fails h kept setup = absurd cc
  pays_some now event left groups a b c s t u (Err e) fails h kept setup = record {
    opened = tt;
    appended = tt;
    ready = tt;
    broken = inr (subst (λ (L : Entries). Begins (peer_with a.known.setup) now event a.trace L) (sym kept) h.begun);
    before = (t, record { entries = h.appended.entries; are = kept ∙ h.appended.are; legal = h.appended.legal });
    legal = subst₂ (λ (g : Setup) (L : Entries). Legal (peer_with g) L) (sym setup) (sym kept) h.current.legal;
    setup = setup ∙ h.setup;
  }
