use Rattle.std.proofs.Common.{drop, length, reverse}
use Rattle.gs_router.specs.Following.{Follows, Reading}
use Rattle.gs_trace.proofs.Seeing.{Reads}
use Rattle.gs_trace.proofs.readers.entries_of_round.Given as goal

-- the entries so far are of the round
abbrev pub invariant-loop-entries : goal.invariant-loop-entries
invariant-loop-entries l = (v : Reading) → Follows l.initial.reader v → Reads l.is_last v l.entries.items l.reader

abbrev pub decreases-loop-entries : goal.decreases-loop-entries
decreases-loop-entries l = length (drop l.reader.place (reverse l.reader.trace.now))
