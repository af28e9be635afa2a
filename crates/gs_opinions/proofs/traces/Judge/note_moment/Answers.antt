use Rattle.std.proofs.Common.{◌≡◌, List, ◌++◌, append-nil, map, take, ap, subst, sym, ◌∙◌}
use Rattle.std.proofs.lemmas.List.{take_all}
use Rattle.gs_base.specs.declared.names.PeerNo.{PeerNo}
use Rattle.gs_base.specs.Names.{peers_of}
use Rattle.gs_seats.specs.Rounds.{neighbours}
use Rattle.gs_opinions.specs.Noting.{Shows}
use Rattle.gs_opinions.specs.Opinions.{opinion_of}
use Rattle.gs_opinions.proofs.Listed.{all_named, neighbour_more}
use Rattle.gs_opinions.proofs.traces.Judge.note_moment.Goals as goal

pub loop-neighbour-init : goal.loop-neighbour-init
loop-neighbour-init c = λ plan p L seen groups os was. subst (Shows plan groups c.args.tables.now) (sym (append-nil os)) was

pub loop-neighbour-preserved : goal.loop-neighbour-preserved
loop-neighbour-preserved c = λ plan p L seen groups os was.
    let f = opinion_of plan p L c.args.at in
    let ns = c.deref-neighbour-items.result.now in
    let i = c.loop-neighbour.neighbour-index in
    let n = c.neighbour-item.result in
    subst (Shows plan groups c.note.new.self)
    (neighbour_more f os ns i n _ c.loop-neighbour-test.true c.neighbour-item.is (c.opinion_of.ensures plan p L seen))
    (c.in_ok-note.ensures plan groups (os ++ map f (peers_of (take i ns))) (c.loop-neighbour.invariant plan p L seen groups os was))

pub returns : goal.returns
returns c = λ plan p L seen groups os was.
    let f = opinion_of plan p L c.args.at in
    let ns = c.deref-neighbour-items.result.now in
    let named : peers_of ns ≡ neighbours plan p =
    ap peers_of (c.deref-neighbour-items.ensures.value ∙ seen.neighbours) ∙ all_named plan p (neighbours plan p) in
    subst (λ (qs : List PeerNo). Shows plan groups c.loop-neighbour.tables (os ++ map f qs))
    (ap peers_of (take_all c.loop-neighbour.neighbour-index ns c.loop-neighbour-test.false) ∙ named)
    (c.loop-neighbour.invariant plan p L seen groups os was)
