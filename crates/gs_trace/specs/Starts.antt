-- How a trace is written round by round: what a reader of each peer's trace has left to read.
use Rattle.std.specs.Prelude.{◌≡◌, ◌≤◌, ℕ, zero, suc, Bool, if◌then◌else◌, List, [], ◌∷◌, map}
use Rattle.std.specs.List.{flat_map}
use Rattle.gs_base.specs.declared.names.PeerNo.{PeerNo}
use Rattle.gs_plan.specs.declared.plan.Plan.{Plan}
use Rattle.gs_router.specs.declared.follower.Followed.{Followed}
use Rattle.gs_router.specs.declared.follower.Follower.{Follower}
use Rattle.gs_router.specs.Following.{Follows, Reading}
use Rattle.gs_report.specs.declared.finished.Finished.{Finished}
use Rattle.gs_seats.specs.Rounds.{peer_in}
use Rattle.gs_trace.specs.Lines.{Seen, Told, after_end, after_ends, seen, seen_by, told_of, up_to_end}

-- ---- one reader

-- an entry that a reader saw
abbrev pub entry_of : Followed → Seen
entry_of followed = (followed.entry.now, followed.fallen.items)

-- what is left to see
abbrev pub left_in : Reading → List Seen
left_in v = seen v.peer v.before v.left

-- the entries of a round among those that are left: in the last round all of them
abbrev pub of_round : Bool → List Seen → List Seen
of_round is_last xs = if is_last then xs else up_to_end xs

-- and those of the rounds after it
abbrev pub after_round : Bool → List Seen → List Seen
after_round is_last xs = if is_last then [] else after_end xs

-- the entries of a round were seen
pub record Sees (is_last : Bool) (v : Reading) (list : List Followed) (f : Follower) : Type 0 where
  pub next : Reading
  pub follows : Follows f next
  pub peer : next.peer ≡ v.peer
  pub taken : map entry_of list ≡ of_round is_last (left_in v)
  pub left : left_in next ≡ after_round is_last (left_in v)

-- ---- the readers of all peers

-- A reader of a peer's trace stands at the beginning of a round, if there is such a round.
pub record StandsAt (plan : Plan) (r : ℕ) (x : PeerNo × Finished) (f : Follower) : Type 0 where
  pub view : Reading
  pub follows : Follows f view
  pub peer : view.peer ≡ peer_in plan x.0
  pub left : r ≤ plan.rounds → left_in view ≡ after_ends r (seen_by plan x)

-- the readers of the peers: the first `n` stand at the beginning of the next round, and the others at the beginning of this one
abbrev pub StandAt : Plan → ℕ → ℕ → List (PeerNo × Finished) → List Follower → Type 0
StandAt plan r n [] [] = Unit {0}
StandAt plan r n [] (f ∷ fs) = ⊥
StandAt plan r n (x ∷ xs) [] = ⊥
StandAt plan r zero (x ∷ xs) (f ∷ fs) = StandsAt plan r x f × StandAt plan r zero xs fs
StandAt plan r (suc n) (x ∷ xs) (f ∷ fs) = StandsAt plan (suc r) x f × StandAt plan r n xs fs

-- what is said about peers in a round
abbrev pub told_by : Plan → List (PeerNo × Finished) → ℕ → List Told
told_by plan peers r = flat_map (told_of plan r) peers
