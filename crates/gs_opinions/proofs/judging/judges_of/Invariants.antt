use Rattle.std.proofs.Common.{[]}
use Rattle.std.specs.List.{AllZip}
use Rattle.gs_seats.specs.Rounds.{peer_no}
use Rattle.gs_opinions.specs.Cells.{by_number}
use Rattle.gs_opinions.specs.Judging.{HasItsJudge}
use Rattle.gs_opinions.proofs.judging.judges_of.Given as goal

-- a judge for each number so far
abbrev pub invariant-loop-number : goal.invariant-loop-number
invariant-loop-number l = AllZip (HasItsJudge l.plan l.of (λ p. [])) (by_number peer_no l.number) l.judges.items
