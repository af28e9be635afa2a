use Rattle.std.proofs.Common.{◌≡◌, ◌≤◌, ◌++◌, ◌+◌, ℕ, List, get_or, length, take, sym, ap, ◌∙◌, arith}
use Rattle.std.proofs.lemmas.List.{take_all}
use Rattle.std.specs.List.{flat_map}
use Rattle.gs_base.specs.declared.names.PeerNo.{PeerNo}
use Rattle.gs_snapshots.specs.declared.snapshot.Snapshot.{Snapshot}
use Rattle.gs_seats.specs.Rounds.{peer_in}
use Rattle.gs_trace.proofs.Appended.{and_then}
use Rattle.gs_snapshots.specs.Forms.{snapshot_text}
use Rattle.gs_snapshots.specs.Scores.{text_about}
use Rattle.gs_trace.proofs.Writing.{one_more}
use Rattle.gs_snapshots.proofs.scores.push_moment.Goals as goal

pub loop-neighbour-preserved : goal.loop-neighbour-preserved
loop-neighbour-preserved c L left follows =
    let plan = c.args.asked.now.plan.now in
    let form = c.args.asked.now.form in
    let text = text_about form plan (c.args.moment, L) in
    let out = c.args.out.now.items in
    let xs = c.deref-neighbour-items.result.now in
    let is = c.deref-neighbour-items.ensures.value in
    let i = c.loop-neighbour.neighbour-index in
    let none : PeerNo = record { 0 = 0 } in
    let before = c.loop-neighbour.out.items in
    and_then out _ _ (c.loop-neighbour.invariant L left follows) (
    c.in_ok-push_snapshot.ensures
    ∙ ap (λ (s : Snapshot). before ++ snapshot_text form plan s) (c.in_ok-snapshot.ensures (record { peer = peer_in plan c.args.moment.peer; before = L; left = left }) follows)
    )
    ∙ ap (λ (more : List ℕ). out ++ more) (
    ap (λ (qs : List PeerNo). flat_map text (take i qs) ++ text (get_or xs i none)) (sym is)
    ∙ one_more text xs i none c.loop-neighbour-test.true
    ∙ ap (λ (qs : List PeerNo). flat_map text (take (i + 1) qs)) is
    )

pub returns : goal.returns
returns c L left follows =
    let text = text_about c.args.asked.now.form c.args.asked.now.plan.now (c.args.moment, L) in
    let qs = c.args.asked.now.neighbours.items in
    let i = c.loop-neighbour.neighbour-index in
    let out = c.args.out.now.items in
    let same : length c.deref-neighbour-items.result.now ≡ length qs = ap (λ (all : List PeerNo). length all) c.deref-neighbour-items.ensures.value in
    let end : length qs ≤ i = omega (arith, same, c.loop-neighbour-test.false) in
    c.loop-neighbour.invariant L left follows ∙ ap (λ (front : List PeerNo). out ++ flat_map text front) (take_all i qs end)
