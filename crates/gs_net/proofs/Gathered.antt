-- What the tasks of a run give, peer by peer.
use Rattle.std.proofs.Common.{◌≡◌, ◌≤◌, ◌<◌, ℕ, zero, suc, List, [], ◌∷◌, Vec, length, map, Option, None, Some, Result, Ok, ◌⊎◌, inl, inr, refl, sym, ap, subst, ◌∙◌, arith}
use Rattle.std.specs.Prelude.{option_map, unwrap_or, slice_get}
use Rattle.std.specs.List.{AllByRecursion, AllZip}
use Rattle.std.specs.declared.alloc.Global.{Global}
use Rattle.std.proofs.lemmas.List.{length-map}
use Rattle.gs_base.specs.declared.names.PeerNo.{PeerNo}
use Rattle.gs_plan.specs.declared.plan.Plan.{Plan}
use Rattle.gs_params.specs.Seeding.{SeededState}
use Rattle.gs_rules.specs.Rounds.{Seat}
use Rattle.gs_ends.specs.Ends.{Joint}
use Rattle.gs_ends.specs.Pairs.{Pair, joints_of, pair_ends}
use Rattle.gs_seats.specs.ListsByPeer.{list_at}
use Rattle.gs_peer.specs.declared.finished_task.PeerFault.{PeerFault}
use Rattle.gs_peer.specs.declared.task.PeerTask.{PeerTask}
use Rattle.gs_peer.specs.Life.{IsLife}
use Rattle.gs_workers.specs.Flags.{FlagId}
use Rattle.gs_peer.specs.Task.{CanPoll, Gives, flag_of}
use Rattle.gs_net.specs.declared.lives.Lives.{Lives}
use Rattle.gs_net.specs.Given.{Given, GivenLife, ends_at}
use Rattle.gs_net.specs.Lives.{IsTakenApart}
use Rattle.gs_seats.specs.Rounds.{first_words, numbers, seat_in}
use Rattle.gs_net.specs.Tasks.{IsTaskFor}
use Rattle.gs_net.proofs.Beginning.{told}
use Rattle.gs_seats.proofs.ByNumber.{as_many, at_number}

-- ---- one peer

-- A whole life of this peer, with ends of the links that it was given.
pub record Gave (plan : Plan) (ends : List (Vec Pair Global)) (p : PeerNo) (f : Given) : Type 0 where
  pub life : GivenLife plan p f
  pub joints : joints_of f.ends ≡ joints_of (list_at ends p.0)

abbrev seat_told : (d : Seat) (x : Option (Seat × SeededState × List Joint)) → Seat
seat_told d None = d
seat_told d (Some x) = x.0

abbrev first_told : (d : SeededState) (x : Option (Seat × SeededState × List Joint)) → SeededState
first_told d None = d
first_told d (Some x) = x.1

abbrev joints_told : (x : Option (Seat × SeededState × List Joint)) → List Joint
joints_told None = []
joints_told (Some x) = x.2

module _ {G : Type 0} (plan : Plan) (flag : FlagId) (ends : List (Vec Pair Global)) where
  one_gave : (p : PeerNo) (task : PeerTask G (List Pair)) (f : Given) → IsTaskFor pair_ends plan flag ends p task → Gives pair_ends task (Ok f) → Gave plan ends p f
  one_gave p task f is (seat, first, given, life) =
      let same : told seat first (joints_of f.ends) ≡ told (seat_in plan p) (first_words plan p) (joints_of (list_at ends p.0)) = sym given ∙ is.is in
      record {
        life = subst (λ (w : SeededState). IsLife pair_ends (seat_in plan p) w f) (ap (first_told first) same)
            (subst (λ (s : Seat). IsLife pair_ends s first f) (ap (seat_told seat) same) life);
        joints = ap joints_told same;
      }

  all_gave : (ps : List PeerNo) (tasks : List (PeerTask G (List Pair))) (givens : List Given) → AllZip (IsTaskFor pair_ends plan flag ends) ps tasks → AllZip (Gives pair_ends) tasks (map Ok givens) → AllZip (Gave plan ends) ps givens
  all_gave [] [] [] is gives = tt
  all_gave (p ∷ ps) (task ∷ tasks) (f ∷ givens) is gives = (one_gave p task f is.0 gives.0, all_gave ps tasks givens is.1 gives.1)
  all_gave [] [] (f ∷ givens) is gives = absurd gives
  all_gave [] (task ∷ tasks) givens is gives = absurd is
  all_gave (p ∷ ps) [] givens is gives = absurd is
  all_gave (p ∷ ps) (task ∷ tasks) [] is gives = absurd gives

  pub gave : (tasks : List (PeerTask G (List Pair))) (results : List (Result Given PeerFault)) (givens : List Given) → AllZip (IsTaskFor pair_ends plan flag ends) (numbers plan) tasks → AllZip (Gives pair_ends) tasks results → map Ok givens ≡ results → AllZip (Gave plan ends) (numbers plan) givens
  gave tasks results givens is gives are = all_gave (numbers plan) tasks givens is (subst (λ (rs : List (Result Given PeerFault)). AllZip (Gives pair_ends) tasks rs) (sym are) gives)

  -- the tasks may be polled
  can_each : (ps : List PeerNo) (tasks : List (PeerTask G (List Pair))) → AllZip (IsTaskFor pair_ends plan flag ends) ps tasks → AllByRecursion (CanPoll pair_ends) tasks
  can_each [] [] is = tt
  can_each (p ∷ ps) (task ∷ tasks) is = (is.0.can, can_each ps tasks is.1)
  can_each [] (task ∷ tasks) is = absurd is
  can_each (p ∷ ps) [] is = absurd is

  pub can_all : (tasks : List (PeerTask G (List Pair))) → AllZip (IsTaskFor pair_ends plan flag ends) (numbers plan) tasks → AllByRecursion (CanPoll pair_ends) tasks
  can_all tasks is = can_each (numbers plan) tasks is

  -- they are stopped by one flag
  stops_each : (ps : List PeerNo) (tasks : List (PeerTask G (List Pair))) → AllZip (IsTaskFor pair_ends plan flag ends) ps tasks → AllByRecursion (λ task. flag_of task ≡ flag) tasks
  stops_each [] [] is = tt
  stops_each (p ∷ ps) (task ∷ tasks) is = (is.0.stops, stops_each ps tasks is.1)
  stops_each [] (task ∷ tasks) is = absurd is
  stops_each (p ∷ ps) [] is = absurd is

  pub stops_all : (tasks : List (PeerTask G (List Pair))) → AllZip (IsTaskFor pair_ends plan flag ends) (numbers plan) tasks → AllByRecursion (λ task. flag_of task ≡ flag) tasks
  stops_all tasks is = stops_each (numbers plan) tasks is

-- ---- the lives

pub lives_each : (plan : Plan) (ends : List (Vec Pair Global)) (ps : List PeerNo) (givens : List Given) → AllZip (Gave plan ends) ps givens → AllZip (GivenLife plan) ps givens
lives_each plan ends [] [] h = tt
lives_each plan ends (p ∷ ps) (f ∷ givens) h = (h.0.life, lives_each plan ends ps givens h.1)
lives_each plan ends [] (f ∷ givens) h = absurd h
lives_each plan ends (p ∷ ps) [] h = absurd h

-- ---- the ends that are left

list_by_slice : (lists : List (Vec Pair Global)) (n : ℕ) → list_at lists n ≡ unwrap_or (slice_get (map (λ (v : Vec Pair Global). v.items) lists) n) []
list_by_slice [] n = refl
list_by_slice (v ∷ lists) zero = refl
list_by_slice (v ∷ lists) (suc n) = list_by_slice lists n

ends_by_slice : (givens : List Given) (n : ℕ) → ends_at givens n ≡ unwrap_or (slice_get (map (λ (f : Given). f.ends) givens) n) []
ends_by_slice [] n = refl
ends_by_slice (f ∷ givens) zero = refl
ends_by_slice (f ∷ givens) (suc n) = ends_by_slice givens n

pub ends_left : (givens : List Given) (lives : Lives) → IsTakenApart givens lives → (n : ℕ) → list_at lives.ends.items n ≡ ends_at givens n
ends_left givens lives apart n =
    list_by_slice lives.ends.items n ∙ ap (λ (xs : List (List Pair)). unwrap_or (slice_get xs n) []) apart.ends ∙ sym (ends_by_slice givens n)

pub ends_as_many : (givens : List Given) (lives : Lives) → IsTakenApart givens lives → length lives.ends.items ≡ length givens
ends_as_many givens lives apart =
    sym (length-map lives.ends.items (λ v. v.items)) ∙ ap length apart.ends ∙ length-map givens (λ f. f.ends)

none_beyond : (lists : List (Vec Pair Global)) (n : ℕ) → length lists ≤ n → list_at lists n ≡ []
none_beyond [] n beyond = refl
none_beyond (v ∷ lists) zero beyond = absurd (omega (arith, beyond))
none_beyond (v ∷ lists) (suc n) beyond = none_beyond lists n (omega (arith, beyond))

-- they are of the links that were given
pub same_joints : (plan : Plan) (ends : List (Vec Pair Global)) (givens : List Given) (lives : Lives) → length ends ≡ length plan.peers → AllZip (Gave plan ends) (numbers plan) givens → IsTakenApart givens lives → (p : PeerNo) → joints_of (list_at lives.ends.items p.0) ≡ joints_of (list_at ends p.0)
same_joints plan ends givens lives count all apart p = by (nat_lt_or p.0 (length plan.peers))
  where
    nat_lt_or : (a b : ℕ) → (a < b) ⊎ (b ≤ a)
    nat_lt_or a zero = inr (omega arith)
    nat_lt_or zero (suc b) = inl (omega arith)
    nat_lt_or (suc a) (suc b) = next (nat_lt_or a b)
      where
        next : (a < b) ⊎ (b ≤ a) → (suc a < suc b) ⊎ (suc b ≤ suc a)
        next (inl h) = inl (omega (arith, h))
        next (inr h) = inr (omega (arith, h))

    by : (p.0 < length plan.peers) ⊎ (length plan.peers ≤ p.0) → joints_of (list_at lives.ends.items p.0) ≡ joints_of (list_at ends p.0)
    by (inl within) =
        let (f, found, h) = at_number (Gave plan ends) plan p givens within all in
        ap joints_of (ends_left givens lives apart p.0 ∙ ap (λ (o : Option Given). unwrap_or (option_map (λ (g : Given). g.ends) o) []) found) ∙ h.joints
    by (inr beyond) =
        ap joints_of (none_beyond lives.ends.items p.0 (omega (arith, beyond, ends_as_many givens lives apart, as_many (Gave plan ends) plan givens all)) ∙ sym (none_beyond ends p.0 (omega (arith, beyond, count))))
