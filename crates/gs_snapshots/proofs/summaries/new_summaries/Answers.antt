use Rattle.std.proofs.Common.{◌≡◌, ◌++◌, ◌+◌, List, [], ◌∷◌, get_or, map, take, sym, ap, ◌∙◌}
use Rattle.std.proofs.lemmas.List.{map-append, take_all, take_more}
use Rattle.gs_base.specs.declared.names.PeerNo.{PeerNo}
use Rattle.gs_snapshots.specs.declared.summary.Summary.{Summary}
use Rattle.gs_snapshots.specs.Summary.{summary_of}
use Rattle.gs_snapshots.proofs.summaries.new_summaries.Goals as goal

pub loop-neighbour-preserved : goal.loop-neighbour-preserved
loop-neighbour-preserved c = λ thresholds.
    let new = λ (q : PeerNo). summary_of thresholds q [] [] in
    let ns = c.args.neighbours.now in
    let n = c.loop-neighbour.neighbour-index in
    let none : PeerNo = record { 0 = 0 } in
    c.in_ok-push.ensures.items
    ∙ ap (λ (all : List Summary). all ++ c.new.result ∷ []) (c.loop-neighbour.invariant thresholds)
    ∙ ap (λ (s : Summary). map new (take n ns) ++ s ∷ []) (c.new.ensures thresholds)
    ∙ sym (map-append new (take n ns) (get_or ns n none ∷ []))
    ∙ ap (map new) (sym (take_more ns n none c.loop-neighbour-test.true))

pub returns : goal.returns
returns c = λ thresholds.
    c.loop-neighbour.invariant thresholds
    ∙ ap (map (λ (q : PeerNo). summary_of thresholds q [] [])) (take_all c.loop-neighbour.neighbour-index c.args.neighbours.now c.loop-neighbour-test.false)
