-- What a router that is called one thing after the other has done.
use Rattle.std.proofs.Common.{◌≡◌, ◌≤◌, ℕ, Bool, false, List, [], ◌∷◌, ◌++◌, Option, None, Some, Ok, Err, Result, refl, sym, ap, subst, ◌∙◌, append_assoc, append-nil, arith, if◌then◌else◌, true≢false}
use Rattle.std.specs.Result.{IsOk}
use Rattle.gs_base.specs.declared.names.Millis.{Millis}
use Rattle.gs_plan.specs.declared.plan.Act.{Act}
use Rattle.gs_rules.specs.declared.event.Event.{Event}
use Rattle.gs_rules.specs.declared.event.Event.TheVariants.{Own}
use Rattle.gs_rules.specs.declared.trace.Entry.{Entry}
use Rattle.gs_rules.specs.declared.refusal.Refusal.TheVariants.{Stopped}
use Rattle.gs_rules.specs.declared.refusal.RefusedLine.{RefusedLine}
use Rattle.gs_rules.specs.Peers.{Peer}
use Rattle.gs_rules.specs.Tables.{Entries, last_moment}
use Rattle.gs_params.specs.Seeding.{SeededState, seeded_after, seeded_word}
use Rattle.gs_rules.specs.Modes.{Mode, exact}
use Rattle.gs_rules.specs.Legal.{ArePayments, LegalOn, Opens, Comes}
use Rattle.gs_rules.specs.Refusals.{refusal}
use Rattle.gs_rules.specs.Rounds.{Todo, Obey, Does, opening, noted, note_of, unless_refused}
use Rattle.gs_router.specs.declared.fault.RouterFault.{RouterFault}
use Rattle.gs_rules.proofs.Legality.{legal_then}
use Rattle.gs_router.specs.State.{Appends}
use Rattle.gs_router.specs.Router.{RouterView, Calls, refusal_of}
use Rattle.gs_player.specs.Playing.{IsRunning, Runs}

-- ---- one thing after the other

pub does_append : (p : Peer) (at : Millis) (xs ys : List Todo) (K L M : Entries) (r s : List RefusedLine) → Does p at xs K L r → Does p at ys L M s → Does p at (xs ++ ys) K M (r ++ s)
does_append p at [] ys K L M r s h k = subst (λ (t : List RefusedLine). Does p at ys K M (t ++ s)) (sym h.1) (subst (λ (J : Entries). Does p at ys J M s) h.0 k)
does_append p at (x ∷ xs) ys K L M r s h k =
    (h.0, h.1 ++ s, h.2, does_append p at xs ys h.0 L M h.1 s h.3 k, ap (λ (t : List RefusedLine). t ++ s) h.4 ∙ append_assoc (noted p K at x) h.1 s)

pub does_one : (p : Peer) (at : Millis) (todo : Todo) (K L : Entries) (r : List RefusedLine) → Comes p at (opening p K at todo) K L → r ≡ noted p K at todo → Does p at (todo ∷ []) K L r
does_one p at todo K L r comes is = (L, [], comes, (refl, refl), is ∙ sym (append-nil (noted p K at todo)))

-- ---- one call

paid_moment : (p : Peer) (at : Millis) (K : Entries) (first : Entry) (paid : List Entry) → first.at ≡ at → ArePayments p at (first ∷ K) paid → last_moment (paid ++ first ∷ K) ≡ at.0
paid_moment p at K first [] is paying = ap (λ (m : Millis). m.0) is
paid_moment p at K first (e ∷ es) is paying = ap (λ (m : Millis). m.0) paying.0

opens_moment : (p : Peer) (at : Millis) (event : Event) (K L : Entries) → Opens p at event K L → last_moment L ≡ at.0
opens_moment p at event K L opens = ap last_moment opens.begun.entries ∙ paid_moment p at K opens.begun.first opens.begun.paid opens.begun.moment opens.begun.payments

comes_moment : (p : Peer) (at : Millis) (event : Option Event) (K L : Entries) → Comes p at event K L → last_moment K ≤ at.0 → last_moment L ≤ at.0
comes_moment p at None K L comes before = subst (λ (M : Entries). last_moment M ≤ at.0) (sym comes) before
comes_moment p at (Some event) K L comes before = omega (arith, opens_moment p at event K L comes)

module _ (m : Mode) (now : Millis) where
  appends_then : (p : Peer) (K L M : Entries) (s u t : m.State) → Appends m p K s L u → Appends m p L u M t → Appends m p K s M t
  appends_then p K L M s u t h k = record {
    entries = k.entries ++ h.entries;
    are = k.are ∙ ap (λ (N : Entries). k.entries ++ N) h.are ∙ sym (append_assoc k.entries h.entries K);
    legal = legal_then m p s u t K h.entries k.entries h.legal (subst (λ (N : Entries). LegalOn m p u N k.entries t) h.are k.legal);
  }

  pub runs_then : (xs ys : List Todo) (u v w : RouterView) (a b c : m.State) (r s : List RefusedLine) → Runs m now xs u a v b r → Runs m now ys v b w c s → Runs m now (xs ++ ys) u a w c (r ++ s)
  runs_then xs ys u v w a b c r s h k = record {
    does = does_append u.peer now xs ys u.trace v.trace w.trace r s h.does (subst (λ (p : Peer). Does p now ys v.trace w.trace s) h.peer k.does);
    appended = appends_then u.peer u.trace v.trace w.trace a b c h.appended (subst (λ (p : Peer). Appends m p v.trace b w.trace c) h.peer k.appended);
    runs_on = k.runs_on;
    peer = k.peer ∙ h.peer;
  }

  -- a call that is done
  pub call_runs : (todo : Todo) (event : Option Event) (v w : RouterView) (s t : m.State) → opening v.peer v.trace now todo ≡ event → noted v.peer v.trace now todo ≡ [] → IsRunning now v → Calls {A = Unit {0}} m event now v s (Ok tt) w t → Runs m now (todo ∷ []) v s w t []
  call_runs todo event v w s t opening_is none running calls = record {
    appended = calls.answer.appended;
    does = does_one v.peer now todo v.trace w.trace [] (subst (λ (o : Option Event). Comes v.peer now o v.trace w.trace) (sym opening_is) calls.answer.comes) (sym none);
    runs_on = record { running = calls.answer.running; time = comes_moment v.peer now event v.trace w.trace calls.answer.comes running.time; legal = calls.legal };
    peer = calls.peer;
  }

  -- a call that only a lack of memory could have kept from being done
  pub told_runs : (todo : Todo) (event : Option Event) (v w : RouterView) (s t : m.State) (told : Result (Unit {0}) RouterFault) → IsOk told → opening v.peer v.trace now todo ≡ event → noted v.peer v.trace now todo ≡ [] → IsRunning now v → Calls m event now v s told w t → Runs m now (todo ∷ []) v s w t []
  told_runs todo event v w s t (Ok x) ok opens none running calls = call_runs todo event v w s t opens none running calls
  told_runs todo event v w s t (Err fault) ok opens none running calls = absurd (true≢false (sym ok))

  -- ---- a line of the script

  goes_on : (v : RouterView) (event : Event) → v.is_stopped ≡ false → refusal_of v now.0 (Some event) ≡ refusal v.peer v.trace now.0 event
  goes_on v event h = ap (λ (b : Bool). if b then Some Stopped else refusal v.peer v.trace now.0 event) h

  -- a line that is followed
  pub line_runs : (place : ℕ) (what : Act) (v w : RouterView) (s t : m.State) → IsRunning now v → Calls {A = Unit {0}} m (Some (Own what)) now v s (Ok tt) w t → Runs m now (Obey place what ∷ []) v s w t []
  line_runs place what v w s t running calls =
      let unrefused : refusal v.peer v.trace now.0 (Own what) ≡ None = sym (goes_on v (Own what) running.running) ∙ calls.answer.free in
      call_runs (Obey place what) (Some (Own what)) v w s t (ap (unless_refused (Own what)) unrefused) (ap (note_of now place) unrefused) running calls

-- ---- what is legal

-- more that is legal, after what was
pub legal_more : (p q : Peer) (first s t : SeededState) (K L : Entries) → q ≡ p → LegalOn (exact seeded_word seeded_after) p first [] K s → Appends (exact seeded_word seeded_after) q K s L t → LegalOn (exact seeded_word seeded_after) p first [] L t
legal_more p q first s t K L same legal more =
    let m = exact seeded_word seeded_after in
    subst (λ (M : Entries). LegalOn m p first [] M t) (sym more.are)
    (legal_then m p first s t [] K more.entries legal
    (subst (λ (M : Entries). LegalOn m p s M more.entries t) (sym (append-nil K)) (subst (λ (r : Peer). LegalOn m r s K more.entries t) same more.legal)))
