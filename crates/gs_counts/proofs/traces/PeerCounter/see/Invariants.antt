use Rattle.std.proofs.Common.{◌++◌, reverse, take}
use Rattle.gs_base.specs.declared.names.PeerNo.{PeerNo}
use Rattle.gs_plan.specs.declared.plan.Plan.{Plan}
use Rattle.gs_rules.specs.Tables.{Entries}
use Rattle.gs_counts.specs.Reading.{IsCounterAfter, ShowsLater}
use Rattle.gs_counts.proofs.traces.PeerCounter.see.Given as goal

-- the entries so far are seen, and the tables show them
abbrev pub invariant-loop-entry : goal.invariant-loop-entry
invariant-loop-entry l =
    (plan : Plan) (p : PeerNo) (L : Entries) → IsCounterAfter plan p l.initial.self L
    → IsCounterAfter plan p l.self (reverse (take l.entry-index l.entries) ++ L) × ShowsLater plan p l.initial.tables l.tables L (take l.entry-index l.entries)
