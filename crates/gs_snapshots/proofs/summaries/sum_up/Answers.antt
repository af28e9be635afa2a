use Rattle.std.proofs.Common.{Option, subst}
use Rattle.gs_router.specs.declared.follower.Followed.{Followed}
use Rattle.gs_router.specs.Following.{GoesOn, Reading}
use Rattle.gs_seats.specs.Rounds.{peer_in}
use Rattle.gs_snapshots.proofs.Seeing.{at_first, at_last, goes_on, less_left}
use Rattle.gs_snapshots.proofs.summaries.sum_up.Goals as goal

pub loop-seen-init : goal.loop-seen-init
loop-seen-init c = λ v follows. at_first c.args.summed v c.args.summaries.now c.args.follower.now follows

pub advance-requires : goal.advance-requires
advance-requires c =
    let h = c.loop-seen.invariant c.requires.follows.0 c.requires.follows.1 in
    (record { peer = peer_in c.args.summed.plan.now c.args.summed.peer; before = h.before; left = h.left }, h.follows)

pub loop-seen-preserved : goal.loop-seen-preserved
loop-seen-preserved c = λ v follows.
    let x = c.args.summed in
    let h = c.loop-seen.invariant v follows in
    let view : Reading = record { peer = peer_in x.plan.now x.peer; before = h.before; left = h.left } in
    let step = subst (λ (o : Option Followed). GoesOn view o c.advance.new.self) c.in-Some.is (c.in_ok-seen.ensures view h.follows) in
    goes_on x v c.args.summaries.now c.loop-seen.summaries c.note_entry.new.summaries c.loop-seen.follower c.advance.new.self c.in-Some.seen h step c.in_ok-note_entry.ensures

pub loop-seen-smaller : goal.loop-seen-smaller
loop-seen-smaller c =
    let x = c.args.summed in
    let h = c.loop-seen.invariant c.requires.follows.0 c.requires.follows.1 in
    let view : Reading = record { peer = peer_in x.plan.now x.peer; before = h.before; left = h.left } in
    let step = subst (λ (o : Option Followed). GoesOn view o c.advance.new.self) c.in-Some.is (c.in_ok-seen.ensures view h.follows) in
    less_left view c.in-Some.seen c.loop-seen.follower c.advance.new.self h.follows step

pub returns : goal.returns
returns c = λ v follows.
    let x = c.args.summed in
    let h = c.loop-seen.invariant v follows in
    let view : Reading = record { peer = peer_in x.plan.now x.peer; before = h.before; left = h.left } in
    let ended = subst (λ (o : Option Followed). GoesOn view o c.advance.new.self) c.in_default.is (c.in_ok-seen.ensures view h.follows) in
    at_last x v c.args.summaries.now c.loop-seen.summaries c.loop-seen.follower h ended.0
