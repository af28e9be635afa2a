use Rattle.std.proofs.Common.{◌≡◌, ap, arith, ◌∙◌}
use Rattle.gs_opinions.specs.Cells.{by_number}
use Rattle.gs_opinions.specs.Listing.{round_at}
use Rattle.gs_opinions.proofs.Numbered.{numbered_more}
use Rattle.gs_opinions.proofs.run.round_rows.Goals as goal

pub loop-round-preserved : goal.loop-round-preserved
loop-round-preserved c =
    numbered_more (round_at c.args.tables.now) c.loop-round.round c.loop-round.rounds c.push.new.self _ c.loop-round.invariant c.in_ok-round_row.ensures c.in_ok-push.ensures.ok

pub returns : goal.returns
returns c =
    let end : c.loop-round.round ≡ c.args.count = omega (arith, c.loop-round-test.false, c.loop-round.auto.round-end) in
    c.loop-round.invariant ∙ ap (by_number (round_at c.args.tables.now)) end
