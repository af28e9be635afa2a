-- Which ends a task may be built with, and what is known about it then.
use Rattle.std.specs.Prelude.{◌≡◌, ◌<◌, ◌%◌, ℕ, true, List, Some, length, map}
use Rattle.std.specs.List.{AllByRecursion, IsDistinct, range_with_len}
use Rattle.std.specs.declared.vec.Vec.{Vec}
use Rattle.std.specs.declared.alloc.Global.{Global}
use Rattle.gs_base.specs.declared.names.PeerNo.{PeerNo}
use Rattle.gs_base.specs.Names.{same_peer}
use Rattle.gs_plan.specs.declared.plan.Line.{Line}
use Rattle.gs_plan.specs.declared.plan.Plan.{Plan}
use Rattle.gs_ends.specs.Ends.{Joint, has}
use Rattle.gs_ends.specs.declared.ends.Ends.{Ghosts as EndsOf}
use Rattle.gs_ends.specs.Pairs.{Pair, joints_of, peers_in}
use Rattle.gs_peer.specs.declared.assignment.Assignment.{Assignment}
use Rattle.gs_peer.specs.declared.task.PeerTask.{PeerTask}
use Rattle.gs_workers.specs.Flags.{FlagId}
use Rattle.gs_peer.specs.Task.{CanPoll, flag_of, given_of}
use Rattle.gs_seats.specs.ListsByPeer.{list_at}
use Rattle.gs_net.specs.Dials.{HasCapacity, IsFresh}
use Rattle.gs_seats.specs.Rounds.{first_words, lines_in, neighbours, peer_no, phase_of, seat_in}

-- There are ends to and from each neighbour, and no neighbour stands twice. The links have the plan's capacity, and nothing has
-- gone over them.
pub record AreUsable (plan : Plan) (p : PeerNo) (pairs : List Pair) : Type 0 where
  pub known : AllByRecursion (λ q. has (joints_of pairs) q ≡ true) (neighbours plan p)
  pub apart : IsDistinct same_peer (peers_in pairs)
  pub sized : AllByRecursion (HasCapacity plan.capacity) pairs
  pub fresh : AllByRecursion IsFresh pairs

-- the lowest `count` numbers of peers
abbrev pub first_numbers : ℕ → List PeerNo
first_numbers count = map peer_no (range_with_len 0 count)

-- There are lines and ends for each peer of the plan: its lines of the script, and ends that it may use.
pub record AreParts (plan : Plan) (lines : List (Vec (ℕ × Line) Global)) (ends : List (Vec Pair Global)) : Type 0 where
  pub lists_of_lines : length lines ≡ length plan.peers
  pub own : (p : PeerNo) → p.0 < length plan.peers → list_at lines p.0 ≡ lines_in plan p
  pub lists_of_ends : length ends ≡ length plan.peers
  pub usable : (p : PeerNo) → p.0 < length plan.peers → AreUsable plan p (list_at ends p.0)

-- What a peer of the plan is given.
pub record IsAssignedIn (plan : Plan) (p : PeerNo) (a : Assignment) : Type 0 where
  pub number : a.number ≡ p
  pub numbers : a.neighbours.items ≡ neighbours plan p
  pub lines : a.lines ≡ lines_in plan p
  pub round_ms : a.round_ms ≡ plan.round_ms
  pub rounds : a.rounds ≡ plan.rounds
  pub phase : a.phase_ms ≡ phase_of plan p
  -- the workers take turns
  pub worker : a.worker ≡ p.0 % plan.workers

module _ {G S : Type 0} (seen : EndsOf S) where
  -- A task of this peer with the peer's random words and ends of these links. This flag stops it.
  pub record IsTask (plan : Plan) (p : PeerNo) (flag : FlagId) (of : List Joint) (task : PeerTask G S) : Type 0 where
    pub can : CanPoll seen task
    pub is : given_of seen.joints task ≡ Some (seat_in plan p, first_words plan p, of)
    pub stops : flag_of task ≡ flag

  -- a task of this peer with the ends that stand at its number
  abbrev pub IsTaskFor : Plan → FlagId → List (Vec Pair Global) → PeerNo → PeerTask G S → Type 0
  IsTaskFor plan flag ends p task = IsTask plan p flag (joints_of (list_at ends p.0)) task
