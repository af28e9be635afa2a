use Rattle.std.proofs.Common.{◌≡◌, ◌<◌, ◌∙◌, List, get_or, length, map, ap, sym, subst, arith}
use Rattle.std.proofs.lemmas.List.{length-map, take_all}
use Rattle.gs_base.specs.declared.names.PeerNo.{PeerNo}
use Rattle.gs_report.specs.declared.remains.Remains.{Remains}
use Rattle.gs_figure_sheets.specs.Standings.{meshes_if}
use Rattle.gs_figure_sheets.proofs.Standings.{Life, left, life_at, number_below, one_more, trace_at}
use Rattle.gs_figure_sheets.proofs.standing.meshes_of.Goals as goal

pub loop-one-preserved : goal.loop-one-preserved
loop-one-preserved c = λ plan traces lives counted are leaves.
    let among = c.args.among.now in
    let i = c.loop-one.one-index in
    let one = c.one-item.result in
    let below : i < length (map left lives) = subst (λ (rs : List (PeerNo × Remains)). i < length rs) (sym leaves) c.loop-one-test.true in
    let here : one ≡ get_or (map left lives) i one = c.one-item.is ∙ ap (λ (rs : List (PeerNo × Remains)). get_or rs i one) (sym leaves) in
    let (x, at, same, within) = life_at lives i one below here in
    let number : x.0 ≡ one.0 = ap (λ (r : PeerNo × Remains). r.0) same in
    let found = c.end_meshes.ensures plan traces x.1 counted (subst (λ (p : PeerNo). p.0 < length plan.peers) number (number_below (length plan.peers) traces lives i x are within at)) (trace_at (length plan.peers) traces lives i x are within at ∙ ap traces number) (ap (λ (r : PeerNo × Remains). r.1) same) in
    one_more (meshes_if among) lives i x c.loop-one.meshes.items c.push.new.self.items c.end_meshes.result within at (c.loop-one.invariant plan traces lives counted are leaves) c.in_ok-push.ensures.items (found ∙ ap (λ (p : PeerNo). meshes_if among (p, x.1)) (sym number))

pub returns : goal.returns
returns c = λ plan traces lives counted are leaves.
    let long : length lives ≡ length c.args.remains.now = sym (length-map lives left) ∙ ap length leaves in
    c.loop-one.invariant plan traces lives counted are leaves
    ∙ ap (map (meshes_if c.args.among.now)) (take_all c.loop-one.one-index lives (omega (arith, long, c.loop-one-test.false)))
