use Rattle.std.proofs.Common.{arith, ap, refl, slice_set, subst}
use Rattle.gs_counts.specs.Counting.{IfCounted}
use Rattle.gs_counts.proofs.GoingOn.{counted_more, counted_same, on_ok_three}
use Rattle.gs_counts.proofs.Reading.{order_later}
use Rattle.gs_counts.proofs.Counters.{counter_where, found_nowhere, found_there}
use Rattle.gs_counts.proofs.counting.Counting.see.Goals as goal

pub see_at-requires : goal.see_at-requires
see_at-requires c =
    let counters = c.args.self.now.counters in
    let p = c.args.peer in
    let L = c.requires.2 p in
    let here = found_there counters.items p c.from.result c.in-Some.counter.now c.from.ensures (omega (arith, c.in-Some.ensures.variant.0 refl, counters.ok.0)) c.in-Some.ensures.value in (
      c.requires.0,
      p,
      L,
      subst (IfCounted c.requires.0 p L) (ap counter_where here) (c.requires.3.counters.seen p),
      order_later c.args.entries.now L c.requires.4,
    )

pub returns-in-Some : goal.returns-in-Some
returns-in-Some c =
    let counters = c.args.self.now.counters in
    let p = c.args.peer in
    let here = found_there counters.items p c.from.result c.in-Some.counter.now c.from.ensures (omega (arith, c.in-Some.ensures.variant.0 refl, counters.ok.0)) c.in-Some.ensures.value in
    on_ok_three
    c.see_at.result
    (λ chosen seen tables plan of before after is has.
    counted_more plan of p c.args.entries.now before after is c.args.self.now has _ c.in-Some.counter.now c.see_at.new.counter here (ap (λ n. slice_set counters.items n c.see_at.new.counter) c.from.ensures) chosen (seen plan p (before p)) (tables plan p (before p)))
    c.see_at.ensures.chosen
    c.see_at.ensures.seen
    c.see_at.ensures.tables

pub returns-in-None : goal.returns-in-None
returns-in-None c = λ plan of before after is has.
    let counters = c.args.self.now.counters in
    counted_same plan of c.args.peer c.args.entries.now before after is c.args.self.now has
    (found_nowhere counters.items c.args.peer c.from.result c.from.ensures (λ low. c.in-None.ensures.variant.1 (omega (arith, low, counters.ok.0))))
