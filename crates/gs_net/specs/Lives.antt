-- What the tasks of a run gave, taken apart.
use Rattle.std.specs.Prelude.{◌≡◌, Bool, true, false, List, length, map, position, Option, option_map, Result, Ok, Err}
use Rattle.gs_base.specs.declared.names.PeerNo.{PeerNo}
use Rattle.gs_peer.specs.declared.finished_task.PeerFault.{PeerFault}
use Rattle.gs_peer.specs.declared.finished_task.PeerFault.TheVariants.{NoMemory, Stopped, Over}
use Rattle.std.specs.List.{range_with_len}
use Rattle.gs_net.specs.declared.lives.Lives.{Lives}
use Rattle.gs_net.specs.Given.{Given, bare}
use Rattle.gs_seats.specs.Rounds.{peer_no}

-- What remains of each run with the peer's number, and the ends of each, in order.
pub record IsTakenApart (givens : List Given) (lives : Lives) : Type 0 where
  pub numbers : map (λ x. x.0) lives.peers.items ≡ map peer_no (range_with_len 0 (length givens))
  pub bare_lives : map (λ x. x.1) lives.peers.items ≡ map bare givens
  pub ends : map (λ list. list.items) lives.ends.items ≡ map (λ f. f.ends) givens

-- a task ran out of memory
abbrev pub wants_memory : {A : Type 0} → Result A PeerFault → Bool
wants_memory (Ok life) = false
wants_memory (Err (NoMemory raised)) = true
wants_memory (Err (Stopped found)) = false
wants_memory (Err Over) = false

-- the lowest peer whose task ran out of memory
abbrev pub first_without_memory : {A : Type 0} → List (Result A PeerFault) → Option PeerNo
first_without_memory results = option_map peer_no (position wants_memory results)
