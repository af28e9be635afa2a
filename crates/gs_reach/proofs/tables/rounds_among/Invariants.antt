use Rattle.std.proofs.Common.{◌≡◌, take}
use Rattle.gs_base.specs.declared.names.PeerNo.{PeerNo}
use Rattle.gs_reach.specs.Messages.{rounds_among}
use Rattle.gs_reach.specs.Tables.{cell}
use Rattle.gs_reach.proofs.tables.rounds_among.Given as goal

-- the rounds by the deliveries so far
abbrev pub invariant-loop-arrival : goal.invariant-loop-arrival
invariant-loop-arrival l = (q : PeerNo) →
    cell l.table q ≡ rounds_among l.plan l.from.0 l.end (take l.arrival-index l.delivered) q
