use Rattle.std.proofs.Common.{rules, ◌<◌, ◌*◌, suc, length, sym, subst, ◌∙◌, arith}
use Rattle.gs_seats.proofs.ByNumber.{as_many}
use Rattle.gs_direct.specs.Letters.{LettersFit}
use Rattle.gs_direct.specs.Runs.{IsAt}
use Rattle.gs_direct.proofs.Loops.{above_other, next_of, next_runs, one_closed}
use Rattle.gs_direct.proofs.Times.{last_round}
use Rattle.gs_direct.proofs.run.close_all.Goals as goal

pub bounds-peers-from : goal.bounds-peers-from
bounds-peers-from g c =
    let plan = c.args.plan.now in
    let below : c.loop-number.number < length plan.peers = search rules in
    omega (arith, c.from.ensures, c.loop-number.invariant.closed.many, as_many (IsAt plan (suc plan.rounds) c.args.peers.now) plan c.args.peers.now c.requires.last.each, below)

pub close-requires-clause-running : goal.close-requires-clause-running
close-requires-clause-running g c =
    let plan = c.args.plan.now in
    let n = c.loop-number.number in
    let below : n < length plan.peers = search rules in
    let next = next_of plan (suc plan.rounds) c.args.peers.now c.loop-number.peers c.args.post.now.mail.items n c.requires.last below (c.loop-number.invariant.closed.left n (omega arith)) in
    next_runs plan (suc plan.rounds) c.args.peers.now c.loop-number.peers c.args.post.now.mail.items n next (record { 0 = plan.rounds * plan.round_ms }) c.index-peers-from.result c.from.result c.from.ensures (last_round plan.rounds plan.round_ms)

pub close-requires-clause-fit : goal.close-requires-clause-fit
close-requires-clause-fit g c =
    let plan = c.args.plan.now in
    let n = c.loop-number.number in
    let below : n < length plan.peers = search rules in
    let next = next_of plan (suc plan.rounds) c.args.peers.now c.loop-number.peers c.args.post.now.mail.items n c.requires.last below (c.loop-number.invariant.closed.left n (omega arith)) in
    subst LettersFit (sym (c.take-letters.ensures.taken ∙ c.loop-number.invariant.waits n (omega arith))) next.fit

pub loop-number-preserved : goal.loop-number-preserved
loop-number-preserved g c =
    let plan = c.args.plan.now in
    let n = c.loop-number.number in
    let below : n < length plan.peers = search rules in
    record {
      closed = one_closed plan (suc plan.rounds) (record { 0 = plan.rounds * plan.round_ms }) c.args.peers.now c.loop-number.peers c.args.post.now.mail.items c.take-letters.result.items n c.from.result c.index-peers-from.result c.close.new.self c.requires.last c.loop-number.invariant.closed below c.from.ensures
          (c.take-letters.ensures.taken ∙ c.loop-number.invariant.waits n (omega arith)) c.in_ok-close.ensures;
      boxes = c.take-letters.ensures.count ∙ c.loop-number.invariant.boxes;
      waits = λ k above. c.take-letters.ensures.others k (above_other n k above) ∙ c.loop-number.invariant.waits k (omega (arith, above));
    }
