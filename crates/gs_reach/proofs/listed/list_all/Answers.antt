use Rattle.gs_rules.specs.Tables.{lost}
use Rattle.gs_reach.specs.Listed.{changed_by, delivered_by, loss_of, published_by}
use Rattle.gs_reach.proofs.Listings.{next_said}
use Rattle.gs_reach.proofs.listed.list_all.Goals as goal

pub loop-peer-preserved : goal.loop-peer-preserved
loop-peer-preserved c =
    let peers = c.args.peers.now in
    let i = c.loop-peer.peer-index in
    let x = c.peer-item.result in
    let entries = c.entries.result.now in
    let below = c.loop-peer-test.true in
    let is = c.peer-item.is in
    let turned = c.entries.ensures in
    let was = c.loop-peer.invariant in
    let e = c.in_ok-note_all.ensures in
    record {
      published = next_said (λ p e. published_by p e.at e.event) peers i x entries _ _ below is turned e.published was.published;
      delivered = next_said (λ p e. delivered_by p e.at e.effects.delivered) peers i x entries _ _ below is turned e.delivered was.delivered;
      changes = next_said (λ p e. changed_by p e.at e.event) peers i x entries _ _ below is turned e.changes was.changes;
      losses = next_said (λ p e. loss_of p e.at (lost e.event)) peers i x entries _ _ below is turned e.losses was.losses;
    }
