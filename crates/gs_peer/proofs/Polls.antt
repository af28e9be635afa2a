-- What a poll gives, and how far it goes.
use Rattle.std.proofs.Common.{◌≡◌, ℕ, false, List, Option, Some, None, Result, Ok, Err, IfOk, IfErr, MatchOption, sym, ap, subst, ◌∙◌}
use Rattle.gs_params.specs.Seeding.{SeededState}
use Rattle.gs_rules.specs.Rounds.{Seat}
use Rattle.gs_ends.specs.Ends.{Joint}
use Rattle.futures.specs.Poll.{OnPending}
use Rattle.futures.specs.declared.task.Poll.{Poll}
use Rattle.futures.specs.declared.task.Poll.TheVariants.{Ready, Pending}
use Rattle.gs_ends.specs.declared.ends.Ends.{Ghosts as EndsOf}
use Rattle.gs_peer.specs.declared.finished_task.FinishedTask.{FinishedTask}
use Rattle.gs_peer.specs.declared.finished_task.PeerFault.{PeerFault}
use Rattle.gs_peer.specs.declared.finished_task.PeerFault.TheVariants.{Over}
use Rattle.gs_peer.specs.Faults.{IsOfFlag}
use Rattle.gs_peer.specs.declared.running.Running.{Running}
use Rattle.gs_peer.specs.declared.task.PeerTask.{PeerTask}
use Rattle.gs_peer.specs.Life.{IsLife}
use Rattle.gs_peer.specs.Running.{Goes, seat_of}
use Rattle.gs_peer.specs.Moves.{is_over}
use Rattle.gs_peer.specs.Stepping.{Polls}
use Rattle.gs_peer.specs.Task.{BothGrew, Bounded, Gives, IsFaultOf, flag_of, given_of}

some_same : {A : Type 0} (a b : A) → Some a ≡ Some b → a ≡ b
some_same a b e = ap (λ o. elim o [ None ↦ a | Some x ↦ x ]) e

pub on_pending : {X : Type 0} (p : Poll X) (P : Type 0) → P → OnPending p P
on_pending (Ready x) P h = tt
on_pending Pending P h = h

module _ {G S : Type 0} (seen : EndsOf S) where
  pub bounded_pending : (most : ℕ) (old new : PeerTask G S) (t u : Running G S) (result : Poll (Result (FinishedTask S) PeerFault))
      → result ≡ Pending
      → old.running ≡ Some t
      → new.running ≡ Some u
      → BothGrew seen most t.ends u.ends
      → Polls seen most t u
      → is_over u ≡ false
      → Bounded seen most old new result
  bounded_pending most old new t u result waits is now h polls alive =
      subst (Bounded seen most old new) (sym waits) (λ v was.
      let same = some_same t v (sym is ∙ was) in
      (u, now, subst (λ (x : Running G S). BothGrew seen most x.ends u.ends) same h, subst (λ (x : Running G S). Polls seen most x u) same polls, alive))

  -- what it gives has the ends of the task that ran
  pub ended : (most : ℕ) (old new : PeerTask G S) (t u : Running G S) (given : Result (FinishedTask S) PeerFault)
      → old.running ≡ Some t
      → BothGrew seen most t.ends u.ends
      → IfOk given (λ f. f.ends ≡ u.ends)
      → Bounded seen most old new (Ready given)
  ended most old new t u (Ok f) is h same = λ v was. subst (λ (x : Running G S). BothGrew seen most x.ends f.ends) (some_same t v (sym is ∙ was)) (subst (λ (e : S). BothGrew seen most t.ends e) (sym same) h)
  ended most old new t u (Err e) is h same = tt

  -- the fault of a task that goes on
  pub fault_of : (task : PeerTask G S) (t : Running G S) (e : PeerFault) → task.running ≡ Some t → IsOfFlag (flag_of task) e → IsFaultOf task e
  fault_of task t e is flag = subst (λ (o : Option (Running G S)). MatchOption o (e ≡ Over) (λ u. IsOfFlag (flag_of task) e)) (sym is) flag

  -- and is a life at its seat
  pub gives_life : (task : PeerTask G S) (t u : Running G S) (given : Result (FinishedTask S) PeerFault)
      → task.running ≡ Some t
      → Goes seen t u
      → IfOk given (λ f. IsLife seen (seat_of u) u.first.value f)
      → IfOk given (λ f. f.ends ≡ u.ends)
      → IfErr given (IsOfFlag (flag_of task))
      → Gives seen task given
  gives_life task t u (Ok f) is goes life same flag =
      let was : given_of seen.joints task ≡ Some (seat_of t, t.first.value, seen.joints t.ends) = ap (λ (o : Option (Running G S)). given_of seen.joints (record task { running = o })) is in
      let seats : Some (seat_of t, t.first.value, seen.joints t.ends) ≡ Some (seat_of u, t.first.value, seen.joints t.ends) = ap (λ (s : Seat). Some (s, t.first.value, seen.joints t.ends)) (sym goes.seat) in
      let firsts : Some (seat_of u, t.first.value, seen.joints t.ends) ≡ Some (seat_of u, u.first.value, seen.joints t.ends) = ap (λ (w : SeededState). Some (seat_of u, w, seen.joints t.ends)) (sym goes.first) in
      let ends : Some (seat_of u, u.first.value, seen.joints t.ends) ≡ Some (seat_of u, u.first.value, seen.joints f.ends) = ap (λ (js : List Joint). Some (seat_of u, u.first.value, js)) (sym (ap seen.joints same ∙ goes.same_ends)) in
      (seat_of u, u.first.value, was ∙ seats ∙ firsts ∙ ends, life)
  gives_life task t u (Err e) is goes life same flag = fault_of task t e is flag

-- the ends that a life gives are of the task's links
pub joints_kept : {A B J : Type 0} (given : Option (A × B × J)) (a c : A) (b d : B) (of now : J) → given ≡ Some (a, b, of) → given ≡ Some (c, d, now) → now ≡ of
joints_kept given a c b d of now was is = ap (λ (x : _). x.2) (some_same (c, d, now) (a, b, of) (sym is ∙ was))
