use Rattle.std.proofs.Common.{List, ◌++◌, append-nil, reverse, take, subst, sym, ◌∙◌}
use Rattle.std.proofs.lemmas.List.{take_all}
use Rattle.gs_rules.specs.declared.trace.Entry.{Entry}
use Rattle.gs_rules.specs.Tables.{Entries}
use Rattle.gs_opinions.specs.Noting.{Shows}
use Rattle.gs_opinions.specs.Opinions.{later_opinions}
use Rattle.gs_opinions.specs.Reading.{IsJudgeAfter, ShowsMore}
use Rattle.gs_opinions.proofs.Reading.{next_later, next_opinions, next_seen, ordered_onto}
use Rattle.gs_opinions.proofs.traces.Judge.see.Goals as goal

pub loop-entry-init : goal.loop-entry-init
loop-entry-init c = λ plan p L seen order. (
  seen,
  λ groups os was. subst (Shows plan groups c.args.tables.now) (sym (append-nil os)) was,
)

pub see_one-requires : goal.see_one-requires
see_one-requires c =
    let es = c.args.entries.now in
    let i = c.loop-entry.entry-index in
    let e = c.entry-item.result in
    let plan = c.requires.0 in
    let p = c.requires.1 in
    let L = c.requires.2 in (
      plan,
      p,
      reverse (take i es) ++ L,
      (c.loop-entry.invariant plan p L c.requires.3 c.requires.4).0,
      next_later es i e L c.loop-entry-test.true c.entry-item.is c.requires.4,
    )

pub loop-entry-preserved : goal.loop-entry-preserved
loop-entry-preserved c = λ plan p L seen order.
    let es = c.args.entries.now in
    let i = c.loop-entry.entry-index in
    let e = c.entry-item.result in
    let low = c.loop-entry-test.true in
    let is = c.entry-item.is in
    let so_far = c.loop-entry.invariant plan p L seen order in
    let told = c.in_ok-see_one.ensures plan p (reverse (take i es) ++ L) so_far.0 (next_later es i e L low is order) in (
      subst (λ (M : Entries). IsJudgeAfter plan p c.see_one.new.self M) (next_seen es i e L low is) told.0,
      λ groups os was.
          subst (Shows plan groups c.see_one.new.tables) (next_opinions plan p es i e L os low is)
          (told.1 groups (os ++ later_opinions plan p (take i es) L) (so_far.1 groups os was)),
    )

pub returns : goal.returns
returns c = λ plan p L seen.
    let first = c.requires.3 in
    let order = ordered_onto (reverse c.args.entries.now) c.requires.2 L (sym first.last ∙ seen.last) seen.order c.requires.4 in
    subst (λ (es : List Entry). IsJudgeAfter plan p c.loop-entry.self (reverse es ++ L) × ShowsMore plan c.args.tables.now c.loop-entry.tables (later_opinions plan p es L))
    (take_all c.loop-entry.entry-index c.args.entries.now c.loop-entry-test.false)
    (c.loop-entry.invariant plan p L seen order)
