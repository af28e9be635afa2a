use Rattle.std.proofs.Common.{◌≡◌, ℕ, [], arith, length, subst}
use Rattle.std.specs.List.{AllZip}
use Rattle.gs_seats.specs.Rounds.{peer_no}
use Rattle.gs_opinions.specs.Cells.{by_number}
use Rattle.gs_opinions.specs.Judging.{HasItsJudge}
use Rattle.gs_opinions.proofs.Zipped.{zipped_more}
use Rattle.gs_opinions.proofs.judging.judges_of.Goals as goal

pub loop-number-preserved : goal.loop-number-preserved
loop-number-preserved c =
    zipped_more (HasItsJudge c.args.plan.now c.args.of.now (λ p. [])) c.loop-number.number c.loop-number.judges.items c.push.new.self.items _ c.loop-number.invariant
    c.in_ok-judge_of.ensures
    c.in_ok-push.ensures.items

pub returns : goal.returns
returns c =
    let plan = c.args.plan.now in
    let counted = c.len-number-end.ensures in
    let end : c.loop-number.number ≡ length plan.peers = omega (arith, c.loop-number-test.false, c.loop-number.auto.number-end, counted) in
    subst (λ (n : ℕ). AllZip (HasItsJudge plan c.args.of.now (λ p. [])) (by_number peer_no n) c.loop-number.judges.items) end c.loop-number.invariant
