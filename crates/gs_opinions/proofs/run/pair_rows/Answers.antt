use Rattle.std.proofs.Common.{◌≡◌, ◌++◌, List, ap, arith, sym, ◌∙◌}
use Rattle.std.specs.List.{flat_map, range_with_len}
use Rattle.gs_opinions.specs.declared.run.PairOpinion.{PairOpinion}
use Rattle.gs_opinions.specs.Listing.{rows_at}
use Rattle.gs_opinions.proofs.Numbered.{flat_numbered}
use Rattle.gs_opinions.proofs.run.pair_rows.Goals as goal

pub loop-number-preserved : goal.loop-number-preserved
loop-number-preserved c =
    let n = c.loop-number.number in
    let row = rows_at c.args.rows.now c.args.count in
    c.in_ok-list_row.ensures
    ∙ ap (λ (pairs : List PairOpinion). pairs ++ row n) c.loop-number.invariant
    ∙ sym (flat_numbered row n)

pub returns : goal.returns
returns c =
    let end : c.loop-number.number ≡ c.args.count = omega (arith, c.loop-number-test.false, c.loop-number.auto.number-end) in
    c.loop-number.invariant ∙ ap (λ k. flat_map (rows_at c.args.rows.now c.args.count) (range_with_len 0 k)) end
