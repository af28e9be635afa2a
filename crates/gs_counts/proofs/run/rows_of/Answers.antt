use Rattle.std.proofs.Common.{ℕ, ap, length, refl, sym, ◌∙◌}
use Rattle.gs_counts.specs.Listing.{all_links, by_number, peer_row}
use Rattle.gs_counts.specs.Rows.{row_where}
use Rattle.gs_counts.specs.Standing.{is_at, is_in, peer_no, span_in}
use Rattle.gs_counts.proofs.Listing.{as_many, listed}
use Rattle.gs_counts.proofs.run.rows_of.Goals as goal

pub peer_rows-requires : goal.peer_rows-requires
peer_rows-requires c =
    let hs = c.requires.shown.0 in
    let shows = c.requires.shown.2 in
    as_many (λ n. row_where (is_at (peer_no n)) hs) (length c.args.plan.now.peers) c.deref.result.now (c.deref.ensures.value ∙ shows.peers) ∙ sym c.len-count.ensures

pub returns : goal.returns
returns c = λ hs sizes shows.
    let plan = c.args.plan.now in
    let many = c.len-count.ensures in
    let row = λ (n : ℕ). row_where (is_at (peer_no n)) hs in
    listed plan c.args.tables.now hs sizes _ shows
    (c.in_ok-peers.ensures row (c.deref.ensures.value ∙ shows.peers ∙ ap (by_number row) (sym many)) ∙ ap (by_number (peer_row row)) many)
    (c.in_ok-links.ensures ∙ (λ i. all_links plan (λ p q. shows.links p q i)))
    (c.in_ok-topics.ensures hs shows.topics)
    (c.in_ok-rounds.ensures _ (λ r. row_where (is_in plan.round_ms r) hs) (λ r. span_in plan.round_ms r sizes) (c.deref-2.ensures.value ∙ shows.rounds) (c.deref-3.ensures.value ∙ shows.spans))
    refl
