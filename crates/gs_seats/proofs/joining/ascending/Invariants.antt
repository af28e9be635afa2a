use Rattle.std.proofs.Common.{◌≡◌, ◌++◌, map}
use Rattle.gs_seats.specs.Rounds.{peer_no}
use Rattle.gs_seats.proofs.joining.ascending.Given as goal

-- those so far, and those of the rest
abbrev pub invariant-loop-number : goal.invariant-loop-number
invariant-loop-number l = l.list.items ++ map peer_no l.number-iterator ≡ map peer_no l.ends.keys
