use Rattle.std.specs.Prelude.{◌≡◌}
use Rattle.gs_base.specs.declared.names.PeerNo.{PeerNo}
use Rattle.gs_rules.specs.Tables.{Entries}
use Rattle.gs_direct.specs.Observing.{HasSeen, HaveGrown, shown}
use Rattle.gs_direct.specs.Runs.{trace_at}
use Rattle.gs_direct.proofs.run.observe.Given as goal

-- the observer has seen what those so far did, and asks the same
abbrev pub invariant-loop-number : goal.invariant-loop-number
invariant-loop-number g l =
    (before : PeerNo → Entries)
    × HaveGrown before (trace_at l.peers)
    × HasSeen (g.O.Observer.saw l.observer) (shown l.number before (trace_at l.peers))
    × (g.O.Observer.question l.observer ≡ g.O.Observer.question l.fn.observer)
