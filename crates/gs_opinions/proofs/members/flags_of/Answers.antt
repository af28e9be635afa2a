use Rattle.std.proofs.Common.{◌≡◌, ap, arith, ◌∙◌}
use Rattle.gs_reach.specs.Chosen.{is_chosen}
use Rattle.gs_seats.specs.Rounds.{peer_no}
use Rattle.gs_opinions.specs.Noting.{member_flags}
use Rattle.gs_opinions.proofs.Numbered.{numbered_more}
use Rattle.gs_opinions.proofs.members.flags_of.Goals as goal

pub loop-number-preserved : goal.loop-number-preserved
loop-number-preserved c =
    let n = c.loop-number.number in
    numbered_more (λ k. is_chosen c.args.group.now (peer_no k)) n c.loop-number.flags c.push.new.self c.contains.result c.loop-number.invariant c.contains.ensures c.in_ok-push.ensures

pub returns : goal.returns
returns c =
    let end : c.loop-number.number ≡ c.args.count = omega (arith, c.loop-number-test.false, c.loop-number.auto.number-end) in
    c.loop-number.invariant ∙ ap (member_flags c.args.group.now) end
