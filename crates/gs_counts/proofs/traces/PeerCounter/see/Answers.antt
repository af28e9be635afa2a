use Rattle.std.proofs.Common.{◌++◌, ◌≤◌, List, reverse, subst, sym, take}
use Rattle.std.proofs.lemmas.List.{take_all}
use Rattle.gs_rules.specs.declared.trace.Entry.{Entry}
use Rattle.gs_rules.specs.Tables.{last_moment}
use Rattle.gs_counts.specs.Reading.{IsCounterAfter, ShowsLater}
use Rattle.gs_counts.proofs.Reading.{later_at, one_further, shown_further, shown_so_far}
use Rattle.gs_counts.proofs.traces.PeerCounter.see.Goals as goal

pub see_one-requires : goal.see_one-requires
see_one-requires c =
    let plan = c.requires.0 in
    let p = c.requires.1 in
    let L = c.requires.2 in
    let i = c.loop-entry.entry-index in
    let es = c.args.entries.now in
    let e = c.entry-item.result in (
      plan,
      p,
      reverse (take i es) ++ L,
      (c.loop-entry.invariant plan p L c.requires.3).0,
      subst (λ (x : Entry). last_moment (reverse (take i es) ++ L) ≤ x.at.0) (sym c.entry-item.is) (later_at es L i e c.requires.4 c.loop-entry-test.true),
    )

pub loop-entry-init : goal.loop-entry-init
loop-entry-init c = λ plan p L seen. (seen, shown_so_far plan p L)

pub loop-entry-preserved : goal.loop-entry-preserved
loop-entry-preserved c = λ plan p L seen.
    let i = c.loop-entry.entry-index in
    let es = c.args.entries.now in
    let e = c.entry-item.result in
    let below = c.loop-entry-test.true in
    let had = c.loop-entry.invariant plan p L seen in (
      subst (IsCounterAfter plan p c.see_one.new.self) (one_further es L i e below c.entry-item.is) (c.in_ok-see_one.ensures.counter plan p (reverse (take i es) ++ L) had.0),
      shown_further plan p es L i e below c.entry-item.is had.1 (c.in_ok-see_one.ensures.tables plan p (reverse (take i es) ++ L) had.0),
    )

pub returns-clause-counter : goal.returns-clause-counter
returns-clause-counter c = λ plan p L seen.
    subst (λ (es : List Entry). IsCounterAfter plan p c.loop-entry.self (reverse es ++ L)) (take_all c.loop-entry.entry-index c.args.entries.now c.loop-entry-test.false) (c.loop-entry.invariant plan p L seen).0

pub returns-clause-tables : goal.returns-clause-tables
returns-clause-tables c = λ plan p L seen.
    subst (λ (es : List Entry). ShowsLater plan p c.args.tables.now c.loop-entry.tables L es) (take_all c.loop-entry.entry-index c.args.entries.now c.loop-entry-test.false) (c.loop-entry.invariant plan p L seen).1
