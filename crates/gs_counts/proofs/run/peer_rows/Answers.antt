use Rattle.std.proofs.Common.{◌≡◌, ap, arith, ◌∙◌}
use Rattle.gs_counts.specs.declared.counts.Counts.{Counts}
use Rattle.gs_counts.specs.Listing.{by_number, peer_row}
use Rattle.gs_counts.proofs.Listing.{numbered_at, numbered_more}
use Rattle.gs_counts.proofs.run.peer_rows.Goals as goal

pub loop-number-preserved : goal.loop-number-preserved
loop-number-preserved c = λ row is.
    let n = c.loop-number.number in
    numbered_more (peer_row row) n c.loop-number.peers c.push.new.self _ (c.loop-number.invariant row is) (ap (λ (counts : Counts). peer_row (λ k. counts) n) (numbered_at row c.args.count c.args.rows.now _ n _ is c.from.ensures c.loop-number-test.true)) c.in_ok-push.ensures.ok

pub returns : goal.returns
returns c = λ row is.
    let end : c.loop-number.number ≡ c.args.count = omega (arith, c.loop-number-test.false, c.loop-number.auto.number-end) in
    c.loop-number.invariant row is ∙ ap (by_number (peer_row row)) end
