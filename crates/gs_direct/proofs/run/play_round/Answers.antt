use Rattle.std.proofs.Common.{rules, ◌≡◌, ◌<◌, ◌*◌, ℕ, suc, length, sym, ap, subst, ◌∙◌, arith}
use Rattle.gs_seats.specs.ListsByPeer.{list_at}
use Rattle.gs_seats.specs.Rounds.{peer_no}
use Rattle.gs_seats.proofs.ByNumber.{as_many}
use Rattle.gs_seats.proofs.Phases.{clock_fits}
use Rattle.gs_direct.specs.Letters.{LettersFit}
use Rattle.gs_direct.specs.Runs.{AreAt, HavePlayed, IsAt}
use Rattle.gs_direct.proofs.Loops.{all_taken, next_of, next_runs, next_small, next_within, none_played, one_played}
use Rattle.gs_direct.proofs.Times.{earlier_round}
use Rattle.gs_direct.proofs.Turning.{grown, turned}
use Rattle.gs_direct.proofs.run.play_round.Goals as goal

pub loop-number-init : goal.loop-number-init
loop-number-init g c = none_played c.args.plan.now c.args.round (record { 0 = c.args.round * c.args.plan.now.round_ms }) c.args.peers.now c.args.post.now.mail.items c.args.post.now.next.items c.requires.before c.requires.next

pub bounds-peers-from : goal.bounds-peers-from
bounds-peers-from g c =
    let below : c.loop-number.number < length c.args.plan.now.peers = search rules in
    omega (arith, c.from.ensures, c.loop-number.invariant.many, as_many (IsAt c.args.plan.now c.args.round c.args.peers.now) c.args.plan.now c.args.peers.now c.requires.before.each, below)

pub play-requires-clause-number : goal.play-requires-clause-number
play-requires-clause-number g c =
    let below : c.loop-number.number < length c.args.plan.now.peers = search rules in
    omega (arith, c.loop-number.invariant.boxes, c.requires.before.boxes, below)

pub play-requires-clause-running : goal.play-requires-clause-running
play-requires-clause-running g c =
    let plan = c.args.plan.now in
    let n = c.loop-number.number in
    let below : n < length plan.peers = search rules in
    let next = next_of plan c.args.round c.args.peers.now c.loop-number.peers c.args.post.now.mail.items n c.requires.before below (c.loop-number.invariant.left n (omega arith)) in
    next_runs plan c.args.round c.args.peers.now c.loop-number.peers c.args.post.now.mail.items n next (record { 0 = c.args.round * plan.round_ms }) c.index-peers-from.result c.from.result c.from.ensures (earlier_round c.args.round plan.round_ms)

pub play-requires-clause-small : goal.play-requires-clause-small
play-requires-clause-small g c =
    let plan = c.args.plan.now in
    let n = c.loop-number.number in
    let below : n < length plan.peers = search rules in
    let next = next_of plan c.args.round c.args.peers.now c.loop-number.peers c.args.post.now.mail.items n c.requires.before below (c.loop-number.invariant.left n (omega arith)) in
    next_small plan c.args.round c.args.peers.now c.loop-number.peers c.args.post.now.mail.items n next (record { 0 = c.args.round * plan.round_ms }) c.index-peers-from.result c.from.result c.from.ensures (clock_fits plan (peer_no n) c.args.round c.requires.range c.requires.round)

pub play-requires-clause-fit : goal.play-requires-clause-fit
play-requires-clause-fit g c =
    let plan = c.args.plan.now in
    let n = c.loop-number.number in
    let below : n < length plan.peers = search rules in
    let next = next_of plan c.args.round c.args.peers.now c.loop-number.peers c.args.post.now.mail.items n c.requires.before below (c.loop-number.invariant.left n (omega arith)) in
    subst LettersFit (sym (c.loop-number.invariant.waits n (omega arith))) next.fit

pub play-requires-clause-within : goal.play-requires-clause-within
play-requires-clause-within g c =
    let plan = c.args.plan.now in
    let n = c.loop-number.number in
    let below : n < length plan.peers = search rules in
    let next = next_of plan c.args.round c.args.peers.now c.loop-number.peers c.args.post.now.mail.items n c.requires.before below (c.loop-number.invariant.left n (omega arith)) in
    next_within plan c.args.round c.args.peers.now c.loop-number.peers c.args.post.now.mail.items n next (length c.loop-number.post.next.items) c.index-peers-from.result c.from.result c.from.ensures (c.loop-number.invariant.places ∙ c.requires.before.boxes)

pub loop-number-preserved : goal.loop-number-preserved
loop-number-preserved g c =
    let plan = c.args.plan.now in
    let below : c.loop-number.number < length plan.peers = search rules in
    let played = c.in_ok-play.ensures in
    one_played plan c.args.round (record { 0 = c.args.round * plan.round_ms }) c.args.peers.now c.loop-number.peers c.args.post.now.mail.items c.loop-number.post.mail.items c.loop-number.post.next.items c.play.new.self.mail.items c.play.new.self.next.items c.loop-number.number c.from.result c.index-peers-from.result c.play.new.peer c.requires.before c.loop-number.invariant below c.from.ensures
    (record { gives = played.turns.0; turns = played.turns.1; adds = played.turns.2 }) played.count played.places played.left played.others

pub returns-clause-after : goal.returns-clause-after
returns-clause-after g c =
    let plan = c.args.plan.now in
    let l = c.loop-number in
    let ends : l.number ≡ length plan.peers = search rules in
    let all = subst (λ (n : ℕ). HavePlayed c.args.round (record { 0 = c.args.round * plan.round_ms }) c.args.peers.now c.args.post.now.mail.items n l.peers l.post.mail.items l.post.next.items) ends l.invariant in
    subst (λ mail. AreAt plan (suc c.args.round) l.peers mail) (ap (λ list. list.items) (sym c.turn.ensures.mail)) (turned plan c.args.round c.args.peers.now l.peers c.args.post.now.mail.items l.post.mail.items l.post.next.items c.requires.before all)

pub returns-clause-next : goal.returns-clause-next
returns-clause-next g c =
    let plan = c.args.plan.now in
    let l = c.loop-number in
    let ends : l.number ≡ length plan.peers = search rules in
    let same = ap (λ list. list.items) c.turn.ensures.next in
    let many = l.invariant.boxes ∙ c.requires.before.boxes in (
      ap length same ∙ many,
      λ n. ap (λ mail. list_at mail n) same ∙ all_taken l.post.mail.items (length plan.peers) n many (λ k lower. l.invariant.taken k (omega (arith, ends, lower))),
    )

pub returns-clause-grown : goal.returns-clause-grown
returns-clause-grown g c =
    let plan = c.args.plan.now in
    let l = c.loop-number in
    let ends : l.number ≡ length plan.peers = search rules in
    let all = subst (λ (n : ℕ). HavePlayed c.args.round (record { 0 = c.args.round * plan.round_ms }) c.args.peers.now c.args.post.now.mail.items n l.peers l.post.mail.items l.post.next.items) ends l.invariant in
    grown plan c.args.round c.args.peers.now l.peers c.args.post.now.mail.items l.post.mail.items l.post.next.items c.requires.before all
