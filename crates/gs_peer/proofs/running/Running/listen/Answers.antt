use Rattle.std.proofs.Common.{◌≡◌, ◌<◌, length, false, refl, rules, sym, subst, List, true}
use Rattle.std.specs.List.{AllByRecursion}
use Rattle.gs_rules.specs.Peers.{links_of}
use Rattle.gs_ends.specs.Ends.{Joint, has}
use Rattle.gs_peer.specs.Inboxes.{InboxView, is_full}
use Rattle.gs_peer.specs.Kept.{InboxKept}
use Rattle.gs_peer.specs.Life.{words_of}
use Rattle.gs_peer.specs.Phases.{phase_of}
use Rattle.gs_peer.specs.Running.{seat_of}
use Rattle.gs_peer.proofs.Grows.{grew_listened}
use Rattle.gs_peer.proofs.Steps.{each_at, kept_listens, known_at, not_closed}
use Rattle.gs_peer.proofs.running.Running.listen.Goals as goal

pub listen-requires-clause-known : goal.listen-requires-clause-known
listen-requires-clause-known g c =
    let t = c.args.self.now in
    let low : t.turn < length t.player.inboxes.items = search rules in
    known_at (g.S.Ends.joints t.ends) (links_of t.player.router.peer) t.player.inboxes.items t.turn c.index_mut-inbox.result.now c.requires.kept.names low c.index_mut-inbox.ensures.value c.requires.known

pub listen-requires-clause-open : goal.listen-requires-clause-open
listen-requires-clause-open g c =
    let t = c.args.self.now in
    let low : t.turn < length t.player.inboxes.items = search rules in
    let x = c.index_mut-inbox.result.now in
    let waits : is_full x ≡ false = search rules in
    let one = each_at (λ (y : InboxView). InboxKept (seat_of t) (phase_of t.phase) t.player.router.trace (words_of (g.S.Ends.taken t.ends) y.peer) y) t.player.inboxes.items t.turn x low c.index_mut-inbox.ensures.value c.requires.kept.hears in
    not_closed (seat_of t) (phase_of t.phase) t.player.router.trace (g.S.Ends.taken t.ends x.peer) x one waits

pub returns-clause-goes : goal.returns-clause-goes
returns-clause-goes g c =
    let t = c.args.self.now in
    let low : t.turn < length t.player.inboxes.items = search rules in
    let x = c.index_mut-inbox.result.now in
    let waits : is_full x ≡ false = search rules in
    let e = c.in_ok-listened.ensures in
    record {
      kept = record {
        small = c.requires.small;
        known = subst (λ (js : List Joint). AllByRecursion (λ q. has js q ≡ true) (links_of t.player.router.peer)) (sym e.joints) c.requires.known;
        kept = kept_listens (seat_of t) (phase_of t.phase) t.outboxes t.player.router t.player.refused.items t.first.value t.player.words
            (g.S.Ends.taken t.ends) (g.S.Ends.taken c.listen.new.ends) (g.S.Ends.accepted t.ends) (g.S.Ends.accepted c.listen.new.ends)
            t.player.inboxes.items t.turn x c.listen.new.self c.requires.kept low c.index_mut-inbox.ensures.value waits e.listened e.others e.accepted;
      };
      seat = refl;
      first = refl;
      same_ends = e.joints;
    }

pub returns-clause-taken : goal.returns-clause-taken
returns-clause-taken g c =
    let t = c.args.self.now in
    let e = c.in_ok-listened.ensures in
    grew_listened (phase_of t.phase) (g.S.Ends.taken t.ends) (g.S.Ends.taken c.listen.new.ends) c.index_mut-inbox.result.now c.listen.new.self e.listened e.others
