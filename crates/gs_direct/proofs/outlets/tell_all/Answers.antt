use Rattle.std.proofs.Common.{◌≡◌, ◌+◌, ◌++◌, List, [], ◌∷◌, take, drop, sym, ap, subst, ◌∙◌}
use Rattle.std.specs.List.{AllZip}
use Rattle.std.proofs.lemmas.List.{drop_more, take_more}
use Rattle.gs_rules.specs.declared.trace.Entry.{Entry}
use Rattle.gs_direct.specs.Outlets.{AllWritten, Says, SaysAll}
use Rattle.gs_direct.proofs.Pairs.{zip_same, zip_then}
use Rattle.gs_direct.proofs.Telling.{says_more, says_none}
use Rattle.gs_direct.proofs.outlets.tell_all.Goals as goal

pub loop-entry-init : goal.loop-entry-init
loop-entry-init c = record { written = c.requires; told = zip_same (SaysAll []) says_none c.args.outlets.now }

pub loop-entry-preserved : goal.loop-entry-preserved
loop-entry-preserved c =
    let es = c.args.entries.now in
    let n = c.loop-entry.entry-index in
    let e = c.entry-item.result in
    let more : take (n + 1) es ≡ take n es ++ e ∷ [] = take_more es n e c.loop-entry-test.true ∙ ap (λ (x : Entry). take n es ++ x ∷ []) (sym c.entry-item.is) in
    let left : AllWritten (e ∷ drop (n + 1) es) = subst AllWritten (drop_more es n e c.loop-entry-test.true ∙ ap (λ (x : Entry). x ∷ drop (n + 1) es) (sym c.entry-item.is)) c.loop-entry.invariant.written in
    record {
      written = left.1;
      told = subst (λ (xs : List Entry). AllZip (SaysAll xs) c.args.outlets.now c.tell.new.outlets) (sym more)
          (zip_then (SaysAll (take n es)) (Says e) (SaysAll (take n es ++ e ∷ [])) (says_more (take n es) e) c.args.outlets.now c.loop-entry.outlets c.tell.new.outlets c.loop-entry.invariant.told c.in_ok-tell.ensures);
    }
