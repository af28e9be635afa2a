use Rattle.std.proofs.Common.{◌≡◌, ◌++◌, ◌+◌, ℕ, List, drop, get_or, slice_set, take, add-one, arith, subst, sym, ap, ◌∙◌}
use Rattle.std.specs.List.{flat_map}
use Rattle.gs_trace.specs.Lines.{told_of}
use Rattle.gs_trace.specs.Pages.{Adds}
use Rattle.gs_trace.specs.Starts.{StandAt}
use Rattle.gs_trace.specs.Turns.{round_text}
use Rattle.gs_trace.specs.Wanted.{line_if, wishes_of}
use Rattle.gs_trace.proofs.Starts.{as_many, peer_more, peers_parts, stand_all, stand_on, stand_there}
use Rattle.gs_trace.proofs.Writing.{and_more, at_err, cut_off}
use Rattle.gs_trace.proofs.lines.write_round.Goals as goal

pub bounds-readers-place : goal.bounds-readers-place
bounds-readers-place g c =
    let walk = c.args.walk.now in
    let many = as_many walk.plan.now c.args.round c.loop-place.place walk.peers.now c.loop-place.readers c.loop-place.invariant.readers in
    omega (arith, many, c.loop-place-test.true)

pub offset_bounds-readers-place : goal.offset_bounds-readers-place
offset_bounds-readers-place g c =
    let walk = c.args.walk.now in
    let many = as_many walk.plan.now c.args.round c.loop-place.place walk.peers.now c.loop-place.readers c.loop-place.invariant.readers in
    omega (arith, many, c.loop-place-test.true, c.loop-place.auto.readers)

pub write_turn-requires-clause-reader : goal.write_turn-requires-clause-reader
write_turn-requires-clause-reader g c =
    let walk = c.args.walk.now in
    stand_there walk.plan.now c.args.round c.loop-place.place walk.peers.now c.loop-place.readers c.index-walk-place.result c.index-readers-place.result c.loop-place-test.true c.loop-place.invariant.readers

pub returns-clause-readers : goal.returns-clause-readers
returns-clause-readers g c =
    let walk = c.args.walk.now in
    let all = c.loop-place-test.false in
    stand_all walk.plan.now c.args.round c.loop-place.place walk.peers.now c.loop-place.readers (omega (arith, all)) c.loop-place.invariant.readers

pub returns-in_err-write_turn-clause-front : goal.returns-in_err-write_turn-clause-front
returns-in_err-write_turn-clause-front g c =
    let walk = c.args.walk.now in
    let xs = walk.peers.now in
    let i = c.loop-place.place in
    let d = c.index-walk-place.result in
    let line = line_if (wishes_of walk.wanted.now) walk.plan.now in
    let told = told_of walk.plan.now c.args.round in
    let so_far = flat_map line (flat_map told (take i xs)) in
    let rest = flat_map line (flat_map told (drop (i + 1) xs)) in
    let this = get_or xs i d in
    let with_this : so_far ++ flat_map line (told this) ≡ flat_map line (flat_map told (take (i + 1) xs)) = peer_more line told xs i d c.loop-place-test.true in
    at_err c.from_residual.result
    (cut_off c.loop-place.invariant.text (g.W.Write.contents c.write_turn.new.output) (flat_map line (told this)) (round_text walk c.args.round) rest c.in_err-write_turn.ensures.front
    (peers_parts line told xs (i + 1) ∙ ap (λ (text : List ℕ). text ++ rest) (sym with_this)))

pub loop-place-preserved : goal.loop-place-preserved
loop-place-preserved g c =
    let walk = c.args.walk.now in
    let xs = walk.peers.now in
    let i = c.loop-place.place in
    let d = c.index-walk-place.result in
    let low = c.loop-place-test.true in
    let line = line_if (wishes_of walk.wanted.now) walk.plan.now in
    let told = told_of walk.plan.now c.args.round in
    let so_far = flat_map line (flat_map told (take i xs)) in
    let this = get_or xs i d in
    let with_this : so_far ++ flat_map line (told this) ≡ flat_map line (flat_map told (take (i + 1) xs)) = peer_more line told xs i d low in
    record {
      readers = subst (λ (n : ℕ). StandAt walk.plan.now c.args.round n xs (slice_set c.loop-place.readers i c.write_turn.new.reader)) (sym (add-one i))
          (stand_on walk.plan.now c.args.round i xs c.loop-place.readers d c.write_turn.new.reader low c.loop-place.invariant.readers c.in_ok-write_turn.ensures.next);
      text = subst (λ (text : List ℕ). Adds text c.args.page.now.items c.write_turn.new.page.items (g.W.Write.contents c.args.output.now) (g.W.Write.contents c.write_turn.new.output)) with_this
          (and_more c.loop-place.invariant.text c.in_ok-write_turn.ensures.added);
    }
