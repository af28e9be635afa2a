use Rattle.std.proofs.Common.{◌≡◌, ◌++◌, ℕ, List, ap, arith, length, sym, ◌∙◌}
use Rattle.std.specs.List.{flat_map, range_with_len}
use Rattle.std.proofs.lemmas.List.Folds.{flat_map-map}
use Rattle.gs_base.specs.Names.{peers_of}
use Rattle.gs_base.specs.declared.names.PeerNo.{PeerNo}
use Rattle.gs_seats.specs.Rounds.{neighbours}
use Rattle.gs_counts.specs.declared.run.LinkCounts.{LinkCounts}
use Rattle.gs_counts.specs.Listing.{links_by}
use Rattle.gs_counts.specs.Standing.{link_row, peer_no}
use Rattle.gs_counts.proofs.Listing.{flat_numbered, numbers_named}
use Rattle.gs_counts.proofs.run.links_among.Goals as goal

pub loop-number-preserved : goal.loop-number-preserved
loop-number-preserved c =
    let n = c.loop-number.number in
    let plan = c.args.plan.now in
    let p : PeerNo = peer_no n in
    let row = link_row c.args.rows.now in
    let named : peers_of c.deref.result.now ≡ neighbours plan p =
    ap peers_of (c.deref.ensures.value ∙ c.in_ok-neighbours.ensures) ∙ numbers_named plan p (neighbours plan p) in
    c.in_ok-list_links.ensures
    ∙ ap (λ (xs : List LinkCounts). xs ++ links_by p (row p) (peers_of c.deref.result.now)) c.loop-number.invariant
    ∙ ap (λ (qs : List PeerNo). flat_map (λ k. links_by (peer_no k) (row (peer_no k)) (neighbours plan (peer_no k))) (range_with_len 0 n) ++ links_by p (row p) qs) named
    ∙ sym (flat_numbered (λ k. links_by (peer_no k) (row (peer_no k)) (neighbours plan (peer_no k))) n)

pub returns : goal.returns
returns c =
    let plan = c.args.plan.now in
    let row = link_row c.args.rows.now in
    let many = c.len-count.ensures in
    let end : c.loop-number.number ≡ length plan.peers = omega (arith, c.loop-number-test.false, c.loop-number.auto.number-end, many) in
    c.loop-number.invariant
    ∙ ap (λ (k : ℕ). flat_map (λ n. links_by (peer_no n) (row (peer_no n)) (neighbours plan (peer_no n))) (range_with_len 0 k)) end
    ∙ sym (flat_map-map (λ (p : PeerNo). links_by p (row p) (neighbours plan p)) peer_no (range_with_len 0 (length plan.peers)))
