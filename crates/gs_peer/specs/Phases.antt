-- Where a task is in its run, and how many of its neighbours' rounds have ended there.
use Rattle.std.specs.Prelude.{ℕ, pred}
use Rattle.gs_rules.specs.Rounds.{Seat}
use Rattle.gs_rules.specs.Rounds as rounds
use Rattle.gs_peer.specs.declared.phase.Phase.{Phase}
use Rattle.gs_peer.specs.declared.phase.Phase.TheVariants.{Playing, Closing}

-- the phase in the peer's rounds
abbrev pub phase_of : Phase → rounds.Phase
phase_of (Playing r) = rounds.Playing r
phase_of Closing = rounds.Closing

-- how many rounds have ended in what a neighbour said, where a phase begins
abbrev pub rounds_ended : Seat → rounds.Phase → ℕ
rounds_ended seat (rounds.Playing r) = pred r
rounds_ended seat rounds.Closing = seat.rounds
