use Rattle.std.proofs.Common.{◌++◌, List, Option, length, subst, sym}
use Rattle.gs_counts.specs.declared.traces.PeerCounter.{PeerCounter}
use Rattle.gs_counts.specs.Counting.{AreCounters, counted_refusals, seen_happenings, seen_sizes}
use Rattle.gs_counts.proofs.Left.{left_shown}
use Rattle.gs_counts.proofs.counting.Counting.counts.Goals as goal

pub rows_of-requires-clause-shown : goal.rows_of-requires-clause-shown
rows_of-requires-clause-shown c =
    let plan = c.args.plan.now in
    let of = c.requires.counted.0 in
    let traces = c.requires.counted.1 in
    let has = c.requires.counted.2 in
    let hs = seen_happenings plan of traces in
    let sizes = seen_sizes plan of traces in
    (hs ++ counted_refusals c.deref.result.now c.args.remains.now, sizes, c.in_ok-note_remains.ensures plan hs sizes has.shows)

pub returns : goal.returns
returns c = λ of traces report has lives is.
    let plan = c.args.plan.now in
    let hs = seen_happenings plan of traces in
    let sizes = seen_sizes plan of traces in
    c.in_ok-counts.ensures _ _
    (left_shown plan of traces c.deref.result.now (subst (λ (counters : List (Option PeerCounter)). AreCounters (length plan.peers) plan of counters traces) (sym c.deref.ensures.value) has.counters) report.peers.items c.args.remains.now c.note_remains.new.tables lives is (c.in_ok-note_remains.ensures plan hs sizes has.shows))
