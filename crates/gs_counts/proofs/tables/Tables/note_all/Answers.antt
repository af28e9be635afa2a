use Rattle.std.proofs.Common.{List, ◌++◌, take, subst}
use Rattle.std.proofs.lemmas.List.{take_all}
use Rattle.gs_counts.specs.declared.happening.Happening.{Happening}
use Rattle.gs_counts.specs.Standing.{Shows}
use Rattle.gs_counts.proofs.Noted.{one_more}
use Rattle.gs_counts.proofs.tables.Tables.note_all.Goals as goal

pub loop-happening-preserved : goal.loop-happening-preserved
loop-happening-preserved c = λ plan hs sizes was.
    let i = c.loop-happening.happening-index in
    let h = c.happening-item.result in
    subst (λ (xs : List Happening). Shows plan c.note.new.self xs sizes) (one_more hs c.args.list.now i h h c.loop-happening-test.true c.happening-item.is)
    (c.in_ok-note.ensures plan (hs ++ take i c.args.list.now) sizes (c.loop-happening.invariant plan hs sizes was))

pub returns : goal.returns
returns c = λ plan hs sizes was.
    subst (λ (xs : List Happening). Shows plan c.loop-happening.self (hs ++ xs) sizes) (take_all c.loop-happening.happening-index c.args.list.now c.loop-happening-test.false)
    (c.loop-happening.invariant plan hs sizes was)
