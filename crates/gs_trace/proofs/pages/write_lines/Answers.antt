use Rattle.std.proofs.Common.{◌≡◌, ◌++◌, ◌+◌, drop, take, sym, ap, ◌∙◌, subst}
use Rattle.std.specs.List.{flat_map}
use Rattle.gs_streams.specs.Streams.{AppendsFront}
use Rattle.gs_trace.specs.Pages.{Adds}
use Rattle.gs_trace.proofs.Writing.{at_err, cut_off, one_more, parts, pushed, so_far, turned}
use Rattle.gs_trace.proofs.pages.write_lines.Goals as goal

pub returns-in_err-push-clause-front : goal.returns-in_err-push-clause-front
returns-in_err-push-clause-front g c =
    let text = g.T.Told.line c.args.turn.now in
    let all = c.args.all.now in
    let i = c.loop-told.told-index in
    at_err c.from_residual.result (so_far c.loop-told.invariant (flat_map text all) (flat_map text (drop i all)) (parts text all i))

pub returns-in_err-write_full-clause-front : goal.returns-in_err-write_full-clause-front
returns-in_err-write_full-clause-front g c =
    let text = g.T.Told.line c.args.turn.now in
    let all = c.args.all.now in
    let i = c.loop-told.told-index in
    let d = c.told-item.result in
    let so_far_and_this : flat_map text (take i all) ++ text d ≡ flat_map text (take (i + 1) all) =
    ap (λ l. flat_map text (take i all) ++ text l) c.told-item.is ∙ one_more text all i d c.loop-told-test.true in
    let whole : flat_map text all ≡ (flat_map text (take i all) ++ text d) ++ flat_map text (drop (i + 1) all) =
    parts text all (i + 1) ∙ ap (λ l. l ++ flat_map text (drop (i + 1) all)) (sym so_far_and_this) in
    let front : AppendsFront (g.W.Write.contents c.loop-told.output) (g.W.Write.contents c.write_full.new.output) (c.loop-told.page.items ++ text d) =
    subst (AppendsFront (g.W.Write.contents c.loop-told.output) (g.W.Write.contents c.write_full.new.output)) c.in_ok-push.ensures c.in_err-write_full.ensures.front in
    at_err c.from_residual-in_err-write_full.result (cut_off c.loop-told.invariant _ (text d) (flat_map text all) (flat_map text (drop (i + 1) all)) front whole)

pub loop-told-preserved : goal.loop-told-preserved
loop-told-preserved g c =
    let text = g.T.Told.line c.args.turn.now in
    let all = c.args.all.now in
    let i = c.loop-told.told-index in
    let d = c.told-item.result in
    let so_far_and_this : flat_map text (take i all) ++ text d ≡ flat_map text (take (i + 1) all) =
    ap (λ l. flat_map text (take i all) ++ text l) c.told-item.is ∙ one_more text all i d c.loop-told-test.true in
    subst (λ l. Adds l c.args.page.now.items c.write_full.new.page.items (g.W.Write.contents c.args.output.now) (g.W.Write.contents c.write_full.new.output)) so_far_and_this
    (turned (pushed c.loop-told.invariant (text d) c.in_ok-push.ensures) c.in_ok-write_full.ensures.added)
