use Rattle.std.proofs.Common.{◌≡◌, ◌<◌, Option, ap, ap₂, arith, refl, ◌∙◌}
use Rattle.gs_counts.specs.declared.counts.Counts.{Counts}
use Rattle.gs_counts.specs.declared.span.Span.{Span}
use Rattle.gs_counts.specs.Listing.{by_number, round_row}
use Rattle.gs_counts.proofs.Listing.{as_many, numbered_at, numbered_more}
use Rattle.gs_counts.proofs.run.round_rows.Goals as goal

pub loop-place-preserved : goal.loop-place-preserved
loop-place-preserved c = λ count row span is spans.
    let n = c.loop-place.place in
    let many = as_many row count c.args.rows.now is in
    let low : n < count = omega (arith, c.loop-place-test.true, many) in
    numbered_more (round_row row span) n c.loop-place.rounds c.push.new.self _ (c.loop-place.invariant count row span is spans) (ap₂ (λ (counts : Counts) (sizes : Option Span). round_row (λ k. counts) (λ k. sizes) n) (numbered_at row count c.args.rows.now n n _ is refl low) (numbered_at span count c.args.spans.now n n _ spans refl low)) c.in_ok-push.ensures.ok

pub returns : goal.returns
returns c = λ count row span is spans.
    let many = as_many row count c.args.rows.now is in
    let end : c.loop-place.place ≡ count = omega (arith, c.loop-place-test.false, c.loop-place.auto.place-end, many) in
    c.loop-place.invariant count row span is spans ∙ ap (by_number (round_row row span)) end
