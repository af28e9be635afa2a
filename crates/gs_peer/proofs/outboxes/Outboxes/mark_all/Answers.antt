use Rattle.std.proofs.Common.{◌≡◌, length, rules, [], ◌∷◌}
use Rattle.gs_base.specs.Tokens.{EndOf}
use Rattle.gs_wire.specs.Codec.{codec}
use Rattle.gs_rules.specs.Saying.{Outgoing, cut_out, saying}
use Rattle.gs_peer.specs.Outboxes.{outgoing_in}
use Rattle.gs_peer.proofs.BoxPlaces.{told_to_end}
use Rattle.gs_peer.proofs.outboxes.Outboxes.mark_all.Goals as goal

pub returns-clause-told : goal.returns-clause-told
returns-clause-told c =
    let xs = c.args.self.now.boxes.entries in
    let ends : c.loop-place.place ≡ length xs = search rules in
    λ q. told_to_end (λ (o : Outgoing). saying (cut_out codec o) (EndOf c.args.round ∷ [])) q xs c.loop-place.place (outgoing_in c.args.self.now q) (outgoing_in c.loop-place.self q) ends (c.loop-place.invariant.marked q)
