use Rattle.std.proofs.Common.{◌≡◌, ◌∙◌, ap, ℕ, length}
use Rattle.std.specs.Prelude.{◌&&◌}
use Rattle.gs_peer.specs.Moves.{turn_after}
use Rattle.gs_peer.proofs.Stepping.{steps_to}
use Rattle.gs_peer.proofs.running.Running.step.Goals as goal

-- to play and to offer take nothing
pub returns-clause-taken : goal.returns-clause-taken
returns-clause-taken g c =
    let listened = c.in_ok-listened.ensures.taken in
    (listened.0, listened.1, λ q. c.in_ok-offered.ensures.taken q ∙ (ap (λ (ends : _). g.S.Ends.taken ends q) c.in_ok-played.ensures.ends ∙ listened.2 q))

pub returns-clause-steps : goal.returns-clause-steps
returns-clause-steps g c =
    let w = c.offer.new.self in
    let l = c.in_ok-listened.ensures in
    let p = c.in_ok-played.ensures in
    let o = c.in_ok-offered.ensures in
    let moved = c.is_any-moved.result in
    let more = c.has_more-more.result in
    let neighbours : c.len.result ≡ length w.player.inboxes.items = c.len.ensures ∙ w.player.inboxes.ok.0 in
    steps_to g.S.Ends c.args.self.now c.listen.new.self c.play_if_due.new.self w c.in_ok-listened.listened c.in_ok-played.played c.in_ok-offered.offered
    l.moved l.full l.still l.alone l.accepted p.due p.still p.phase p.ends p.turn o.moved o.waits o.alone o.taken
    moved more c.next_turn-self.result c.is_any-moved.ensures c.has_more-more.ensures
    (c.next_turn-self.ensures ∙ ap (λ (n : ℕ). turn_after w.turn n (moved && more)) neighbours)
