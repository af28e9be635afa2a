use Rattle.std.proofs.Common.{◌≡◌, ℕ, [], ap, arith, subst, ◌∙◌}
use Rattle.std.specs.List.{AllZip}
use Rattle.gs_seats.specs.Rounds.{peer_no}
use Rattle.gs_opinions.specs.Cells.{by_number}
use Rattle.gs_opinions.specs.Noting.{ShowsRow}
use Rattle.gs_opinions.proofs.Ascending.{look}
use Rattle.gs_opinions.proofs.Zipped.{zipped_more}
use Rattle.gs_opinions.proofs.pairs.empty_rows.Goals as goal

pub loop-preserved : goal.loop-preserved
loop-preserved c =
    zipped_more (ShowsRow []) c.loop.counter c.loop.rows.items c.push.new.self.items _ c.loop.invariant
    (λ q. ap (look q) c.new.ensures.empty)
    c.in_ok-push.ensures.items

pub returns : goal.returns
returns c =
    let end : c.loop.counter ≡ c.len-end.result = omega (arith, c.loop-test.false, c.loop.auto.counter-end) in
    subst (λ (n : ℕ). AllZip (ShowsRow []) (by_number peer_no n) c.loop.rows.items) (end ∙ c.len-end.ensures) c.loop.invariant
