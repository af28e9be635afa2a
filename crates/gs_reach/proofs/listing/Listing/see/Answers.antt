use Rattle.std.proofs.Common.{◌∙◌, ℕ, ◌<◌, ◌≤◌, length, get_or, set, refl, ap, arith}
use Rattle.gs_base.specs.declared.names.PeerNo.{PeerNo}
use Rattle.gs_reach.specs.declared.listed.Listed.{Listed}
use Rattle.gs_reach.proofs.Listings.{left_out, seen}
use Rattle.gs_reach.proofs.listing.Listing.see.Goals as goal

pub returns-in_ok-note_all-in-Some : goal.returns-in_ok-note_all-in-Some
returns-in_ok-note_all-in-Some c = λ count before after add was.
    let items = c.args.self.now.peers.items in
    let x = c.in-Some.part.now in
    let y : PeerNo × Listed = (x.0, c.note_all.new.self) in
    let below : c.args.peer.0 < length items = omega (arith, c.in-Some.ensures.item.3.0, c.from.ensures) in
    let e = c.in_ok-note_all-in-Some.ensures in
    record {
      peers = seen before after c.args.peer c.args.entries.now add count items (set items c.from.result y) x y was.peers below
          (c.in-Some.ensures.value ∙ ap (λ (k : ℕ). get_or items k x) c.from.ensures) refl
          e.published e.delivered e.changes e.losses
          (ap (λ (k : ℕ). set items k y) c.from.ensures);
    }

pub returns-in-None : goal.returns-in-None
returns-in-None c = λ count before after add was.
    let items = c.args.self.now.peers.items in
    let past : length items ≤ c.args.peer.0 = omega (arith, c.in-None.ensures.item.3, c.from.ensures) in
    record { peers = left_out before after c.args.peer c.args.entries.now add count items was.peers past }
