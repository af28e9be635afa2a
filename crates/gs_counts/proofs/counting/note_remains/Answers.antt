use Rattle.std.proofs.Common.{List, ◌++◌, append-nil, subst, sym, take}
use Rattle.std.proofs.lemmas.List.{take_all}
use Rattle.gs_base.specs.declared.names.PeerNo.{PeerNo}
use Rattle.gs_report.specs.declared.remains.Remains.{Remains}
use Rattle.gs_counts.specs.declared.happening.Happening.{Happening}
use Rattle.gs_counts.specs.Counting.{counted_refusals}
use Rattle.gs_counts.specs.Standing.{Shows}
use Rattle.gs_counts.proofs.Left.{refusals_more}
use Rattle.gs_counts.proofs.counting.note_remains.Goals as goal

pub loop-left-init : goal.loop-left-init
loop-left-init c = λ plan hs sizes was. subst (λ (xs : List Happening). Shows plan c.args.tables.now xs sizes) (sym (append-nil hs)) was

pub loop-left-preserved : goal.loop-left-preserved
loop-left-preserved c = λ plan hs sizes was.
    let i = c.loop-left.left-index in
    let counters = c.args.counters.now in
    let xs = c.args.remains.now in
    subst (λ (ys : List Happening). Shows plan c.note_left.new.tables ys sizes) (refusals_more counters hs xs i c.left-item.result c.loop-left-test.true c.left-item.is)
    (c.in_ok-note_left.ensures plan (hs ++ counted_refusals counters (take i xs)) sizes (c.loop-left.invariant plan hs sizes was))

pub returns : goal.returns
returns c = λ plan hs sizes was.
    subst (λ (xs : List (PeerNo × Remains)). Shows plan c.loop-left.tables (hs ++ counted_refusals c.args.counters.now xs) sizes) (take_all c.loop-left.left-index c.args.remains.now c.loop-left-test.false)
    (c.loop-left.invariant plan hs sizes was)
