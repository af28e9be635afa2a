-- How calls of a router end.
use Rattle.std.proofs.Common.{rules, ◌≡◌, ◌≤◌, ℕ, Bool, true, false, List, [], ◌∷◌, Option, None, Some, Ok, Err, refl, sym, ap, subst, ◌∙◌, if◌then◌else◌, is_some, length, Result}
use Rattle.std.specs.Prelude.{not, ◌||◌}
use Rattle.std.specs.List.{AllByRecursion}
use Rattle.gs_base.specs.declared.names.Millis.{Millis}
use Rattle.gs_base.specs.declared.names.PeerNo.{PeerNo}
use Rattle.gs_base.specs.declared.names.Topic.{Topic}
use Rattle.gs_base.specs.declared.rpc.Rpc.{Rpc}
use Rattle.gs_base.specs.Names.{longest_topic, message_id}
use Rattle.gs_base.specs.Rpcs.{publication}
use Rattle.gs_wire.specs.Codec.{codec}
use Rattle.gs_rules.specs.declared.event.Event.{Event}
use Rattle.gs_rules.specs.declared.event.Event.TheVariants.{Heard, Late, BeatBegin, Decay, RoundEnd, Shut, Own}
use Rattle.gs_plan.specs.declared.plan.Act.{Act}
use Rattle.gs_plan.specs.declared.plan.Act.TheVariants.{Subscribe, Unsubscribe, Publish, HangUp, Raw}
use Rattle.gs_rules.specs.declared.refusal.Refusal.{Refusal}
use Rattle.gs_rules.specs.declared.refusal.Refusal.TheVariants.{Stopped}
use Rattle.gs_rules.specs.Peers.{Peer, seen_ttl}
use Rattle.gs_rules.specs.Tables.{Entries, is_shut, joined, seen, up}
use Rattle.gs_rules.specs.Owed.{owes}
use Rattle.gs_rules.specs.Modes.{Mode}
use Rattle.gs_rules.specs.Legal.{Legal, MayAct, MayOpen, MaySubscribe, MayUnsubscribe, MayPublish, has_room_for, hearing, losing}
use Rattle.gs_rules.specs.Refusals.{first_of, is_long, reasons, refusal}
use Rattle.gs_router.specs.declared.state.State.{State}
use Rattle.gs_router.specs.declared.fault.RouterFault.{RouterFault}
use Rattle.gs_router.specs.declared.fault.RouterFault.TheVariants.{Refused}
use Rattle.gs_router.specs.Known.{peer_with}
use Rattle.gs_router.specs.State.{WorkEnds}
use Rattle.gs_router.specs.Router.{RouterView, Calls, IsPlain, answer_of, fails, refusal_if, refusal_of, view_of}

-- what a router that goes on refuses
going : (v : RouterView) (at : ℕ) (event : Option Event) → v.is_stopped ≡ false → refusal_of v at event ≡ refusal_if v.peer v.trace at event
going v at event h = ap (λ (b : Bool). if b then Some Stopped else refusal_if v.peer v.trace at event) h

-- it is refused, and nothing changes
pub refuses : (m : Mode) (event : Event) (now : Millis) (v : RouterView) (s : m.State) (found : Option Refusal) (why : Refusal) → v.is_stopped ≡ false → found ≡ refusal v.peer v.trace now.0 event → found ≡ Some why → Legal v.peer v.trace → Calls {A = Unit {0}} m (Some event) now v s (Err (Refused why)) v s
refuses m event now v s found why runs told is legal = record {
  answer = record { first = going v now.0 (Some event) runs ∙ sym told ∙ is; unchanged = refl; undrawn = refl };
  peer = refl;
  legal = legal;
}

-- a router that has stopped refuses everything
pub stopped : (m : Mode) (event : Option Event) (now : Millis) (v : RouterView) (s : m.State) → v.is_stopped ≡ true → Legal v.peer v.trace → Calls {A = Unit {0}} m event now v s (Err (Refused Stopped)) v s
stopped m event now v s is legal = record {
  answer = record { first = ap (λ (b : Bool). if b then Some Stopped else refusal_if v.peer v.trace now.0 event) is; unchanged = refl; undrawn = refl };
  peer = refl;
  legal = legal;
}

-- there is nothing to do
pub idles : (m : Mode) (now : Millis) (v : RouterView) (s : m.State) (q : PeerNo) (event : Event) → v.is_stopped ≡ false → up v.trace q ≡ false → Legal v.peer v.trace → Calls {A = Unit {0}} m (losing v.trace q event) now v s (Ok tt) v s
idles m now v s q event runs down legal = subst (λ (o : Option Event). Calls {A = Unit {0}} m o now v s (Ok tt) v s) (sym (ap (λ (b : Bool). if b then Some event else None) down)) (record {
  answer = record {
    free = going v now.0 None runs;
    comes = refl;
    appended = record { entries = []; are = refl; legal = refl };
    running = runs;
  };
  peer = refl;
  legal = legal;
})

module _ {K : Type 0} (m : Mode) {E : Type 0} (event : Event) (now : Millis) (a b : State K) (s t : m.State) (stopped after : Bool) (runs : stopped ≡ false) where
  -- what is not refused is done, or memory ran out
  pub ends_call : (done : Result (Unit {0}) E) (answer : Result (Unit {0}) RouterFault) → answer ≡ answer_of done → after ≡ (stopped || fails done) → refusal (peer_with a.known.setup) a.trace now.0 event ≡ None → WorkEnds m event now a s done b t → Calls m (Some event) now (view_of a stopped) s answer (view_of b after) t
  ends_call done answer answer_is after_is free ends =
      subst (λ (one : Result (Unit {0}) RouterFault). Calls m (Some event) now (view_of a stopped) s one (view_of b after) t) (sym answer_is) (by done after_is ends)
    where
      due : refusal_of (view_of a stopped) now.0 (Some event) ≡ None
      due = going (view_of a stopped) now.0 (Some event) runs ∙ free

      by : (done : Result (Unit {0}) E) → after ≡ (stopped || fails done) → WorkEnds m event now a s done b t → Calls m (Some event) now (view_of a stopped) s (answer_of done) (view_of b after) t
      by (Ok x) after_is ends = record {
        answer = record {
          free = due;
          comes = ends.opened;
          appended = ends.appended;
          running = after_is ∙ ap (λ (b : Bool). b || false) runs;
        };
        peer = ap peer_with ends.setup;
        legal = ends.legal;
      }
      by (Err e) after_is ends = record {
        answer = record {
          free = due;
          breaks = ends.broken;
          appended = ends.before;
          stopped = after_is ∙ ap (λ (b : Bool). b || true) runs;
        };
        peer = ap peer_with ends.setup;
        legal = ends.legal;
      }

-- ---- what is not refused

none_by : (b : Bool) (fault : Refusal) (later : Option Refusal) → (if b then Some fault else later) ≡ None → (b ≡ false) × (later ≡ None)
none_by true fault later is = absurd cc
none_by false fault later is = (refl, is)

none_holds : (xs : List (Bool × Refusal)) → first_of xs ≡ None → AllByRecursion (λ (x : Bool × Refusal). x.0 ≡ false) xs
none_holds [] is = tt
none_holds (x ∷ xs) is = let a = none_by x.0 x.1 (first_of xs) is in (a.0, none_holds xs a.1)

is_not : (b : Bool) → not b ≡ false → b ≡ true
is_not true h = refl
is_not false h = absurd cc

neither : (a b : Bool) → (a || not b) ≡ false → (a ≡ false) × (b ≡ true)
neither true b h = absurd cc
neither false true h = (refl, refl)
neither false false h = absurd cc

is_unseen : {A : Type 0} (o : Option A) → is_some o ≡ false → o ≡ None
is_unseen None h = refl
is_unseen (Some x) h = absurd cc

is_short : (t : Topic) → is_long t ≡ false → length t.0 ≤ longest_topic
is_short t h = search (rules, h)

may_subscribe : (p : Peer) (L : Entries) (at : ℕ) (t : Topic) → refusal p L at (Own (Subscribe t)) ≡ None → MaySubscribe L t
may_subscribe p L at t free =
    let h = none_holds (reasons p L at (Own (Subscribe t))) free in
    record { running = h.0; short = is_short t h.1.0; apart = h.1.1.0; room = is_not (has_room_for L t) h.1.1.1.0 }

may_unsubscribe : (p : Peer) (L : Entries) (at : ℕ) (t : Topic) → refusal p L at (Own (Unsubscribe t)) ≡ None → MayUnsubscribe L t
may_unsubscribe p L at t free =
    let h = none_holds (reasons p L at (Own (Unsubscribe t))) free in
    record { running = h.0; joined = is_not (joined L t) h.1.0 }

may_publish : (p : Peer) (L : Entries) (at : ℕ) (t : Topic) (payload : List ℕ) → refusal p L at (Own (Publish t payload)) ≡ None → MayPublish p L at t payload
may_publish p L at t payload free =
    let h = none_holds (reasons p L at (Own (Publish t payload))) free in
    let short = neither (is_long t) (codec.fits (publication t payload)) h.1.0 in
    record { running = h.0; short = is_short t short.0; fits = short.1; unseen = is_unseen (seen (seen_ttl p) L (message_id payload) at) h.1.1.0 }

may_hang_up : (p : Peer) (L : Entries) (at : ℕ) (q : PeerNo) → refusal p L at (Own (HangUp q)) ≡ None → up L q ≡ true
may_hang_up p L at q free = is_not (up L q) (none_holds (reasons p L at (Own (HangUp q))) free).1.0

may_put : (p : Peer) (L : Entries) (at : ℕ) (q : PeerNo) (bytes : List ℕ) → refusal p L at (Own (Raw q bytes)) ≡ None → up L q ≡ true
may_put p L at q bytes free = is_not (up L q) (none_holds (reasons p L at (Own (Raw q bytes))) free).1.0

-- an act may come where it is not refused
pub may_act : (p : Peer) (L : Entries) (at : ℕ) (act : Act) → refusal p L at (Own act) ≡ None → MayAct p L at act
may_act p L at (Subscribe t) free = may_subscribe p L at t free
may_act p L at (Unsubscribe t) free = may_unsubscribe p L at t free
may_act p L at (Publish t payload) free = may_publish p L at t payload free
may_act p L at (HangUp q) free = may_hang_up p L at q free
may_act p L at (Raw q bytes) free = may_put p L at q bytes free

-- a heartbeat may come where it is not refused
pub may_beat : (p : Peer) (L : Entries) (at : ℕ) → refusal p L at BeatBegin ≡ None → MayOpen p L at BeatBegin
may_beat p L at free = (none_holds (reasons p L at BeatBegin) free).0

-- an event that only needs a peer that has not shut down is refused for nothing else
pub refused_plainly : (p : Peer) (L : Entries) (at : ℕ) (event : Event) → IsPlain event → refusal p L at event ≡ first_of ((is_shut L, Stopped) ∷ [])
refused_plainly p L at Decay plain = refl
refused_plainly p L at (RoundEnd r) plain = refl
refused_plainly p L at Shut plain = refl
refused_plainly p L at other plain = absurd plain

-- it may come where it is not refused
pub may_come : (p : Peer) (L : Entries) (at : ℕ) (event : Event) → IsPlain event → refusal p L at event ≡ None → MayOpen p L at event
may_come p L at Decay plain free = (none_holds (reasons p L at Decay) free).0
may_come p L at (RoundEnd r) plain free = (none_holds (reasons p L at (RoundEnd r)) free).0
may_come p L at Shut plain free = (none_holds (reasons p L at Shut) free).0
may_come p L at other plain free = absurd plain

-- and owes nothing
pub owes_plainly : (p : Peer) (L : Entries) (at : ℕ) (event : Event) → IsPlain event → owes p L at event ≡ []
owes_plainly p L at Decay plain = refl
owes_plainly p L at (RoundEnd r) plain = refl
owes_plainly p L at Shut plain = refl
owes_plainly p L at other plain = absurd plain

-- what comes of a neighbour is not refused
pub hearing_free : (p : Peer) (L : Entries) (at : ℕ) (q : PeerNo) (rpc : Rpc) → refusal p L at (hearing L q rpc) ≡ None
hearing_free p L at q rpc = by (up L q)
  where
    by : (is_up : Bool) → refusal p L at (if is_up then Heard q rpc else Late q rpc) ≡ None
    by true = refl
    by false = refl

-- a neighbour that is up is lost
pub loses : (L : Entries) (q : PeerNo) (event : Event) → up L q ≡ true → losing L q event ≡ Some event
loses L q event is_up = ap (λ (b : Bool). if b then Some event else None) is_up
