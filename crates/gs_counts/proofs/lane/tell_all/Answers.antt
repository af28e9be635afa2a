use Rattle.std.proofs.Common.{◌≡◌, ◌++◌, ◌∷◌, [], List, append-nil, append_assoc, ap, get_or, set, sym, take, ◌∙◌, ◌+◌}
use Rattle.std.specs.List.{flat_map}
use Rattle.std.proofs.lemmas.Grind.{flat_map-append}
use Rattle.std.proofs.lemmas.List.{take_more}
use Rattle.gs_counts.specs.declared.happening.Happening.{Happening}
use Rattle.gs_counts.specs.declared.lane.Lane.{Lane}
use Rattle.gs_counts.specs.Lanes.{lane_after, lane_happenings}
use Rattle.gs_counts.proofs.Lanes.{all_silent, lanes_stay}
use Rattle.gs_counts.proofs.Mapped.{mapped_is, mapped_more}
use Rattle.gs_counts.proofs.lane.tell_all.Goals as goal

pub returns-then-is_silent-clause-list : goal.returns-then-is_silent-clause-list
returns-then-is_silent-clause-list c =
    let silent = c.is_silent.ensures c.if-is_silent.true in
    sym (append-nil c.args.list.now.items) ∙ ap (λ (hs : List Happening). c.args.list.now.items ++ hs) (sym (all_silent c.args.scene c.args.entry.now silent c.args.lanes.now))

pub returns-then-is_silent-clause-lanes : goal.returns-then-is_silent-clause-lanes
returns-then-is_silent-clause-lanes c = sym (lanes_stay c.args.scene c.args.entry.now (c.is_silent.ensures c.if-is_silent.true) c.args.lanes.now)

pub loop-lane-preserved : goal.loop-lane-preserved
loop-lane-preserved c =
    let e = c.args.entry.now in
    let s = c.args.scene in
    let xs = c.args.lanes.now in
    let n = c.loop-lane.lane-index in
    let x = c.lane-item.result in
    let low = c.loop-lane-test.true in
    let ys = c.loop-lane.lanes in
    let y = get_or ys n x in
    let is : y ≡ get_or xs n x = mapped_is (lane_after e) xs ys n x low c.loop-lane.invariant.1 in
    let out = λ (lane : Lane). lane_happenings s lane e in
    let more : flat_map out (take (n + 1) xs) ≡ flat_map out (take n xs) ++ out y =
    ap (flat_map out) (take_more xs n x low ∙ ap (λ (z : Lane). take n xs ++ z ∷ []) (sym is))
    ∙ flat_map-append out (take n xs) (y ∷ [])
    ∙ ap (λ (hs : List Happening). flat_map out (take n xs) ++ hs) (append-nil (out y)) in (
      c.in_ok-tell.ensures.list
          ∙ ap (λ (hs : List Happening). hs ++ out y) c.loop-lane.invariant.0
          ∙ append_assoc c.args.list.now.items (flat_map out (take n xs)) (out y)
          ∙ ap (λ (hs : List Happening). c.args.list.now.items ++ hs) (sym more),
      ap (set ys n) c.in_ok-tell.ensures.lane ∙ mapped_more (lane_after e) xs ys n x low c.loop-lane.invariant.1,
    )
