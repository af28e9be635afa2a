use Rattle.std.proofs.Common.{◌≡◌, ◌<◌, length, refl, rules, sym, subst, List, true}
use Rattle.std.specs.List.{AllByRecursion}
use Rattle.gs_rules.specs.Peers.{links_of}
use Rattle.gs_ends.specs.Ends.{Joint, has}
use Rattle.gs_peer.specs.Outboxes.{waiting}
use Rattle.gs_peer.specs.Phases.{phase_of}
use Rattle.gs_peer.specs.Running.{seat_of}
use Rattle.gs_peer.proofs.Grows.{grew_accepted}
use Rattle.gs_peer.proofs.Steps.{kept_offers, known_at}
use Rattle.gs_peer.proofs.Stepping.{says_still}
use Rattle.gs_peer.proofs.running.Running.offer.Goals as goal

pub offer-requires : goal.offer-requires
offer-requires g c =
    let t = c.args.self.now in
    let low : t.turn < length t.player.inboxes.items = search rules in
    rw c.peer-peer.ensures (known_at (g.S.Ends.joints t.ends) (links_of t.player.router.peer) t.player.inboxes.items t.turn c.index.result.now c.requires.kept.names low (search rules) c.requires.known)

pub returns-clause-goes : goal.returns-clause-goes
returns-clause-goes g c =
    let t = c.args.self.now in
    let e = c.in_ok-offered.ensures in
    record {
      kept = record {
        small = c.requires.small;
        known = subst (λ (js : List Joint). AllByRecursion (λ q. has js q ≡ true) (links_of t.player.router.peer)) (sym c.offer.ensures.joints) c.requires.known;
        kept = kept_offers (seat_of t) (phase_of t.phase) (g.S.Ends.taken t.ends) (g.S.Ends.taken c.offer.new.ends) (g.S.Ends.accepted t.ends) (g.S.Ends.accepted c.offer.new.ends)
            t.player.inboxes.items t.outboxes c.offer.new.self t.player.router t.player.refused.items t.first.value t.player.words c.peer-peer.result
            c.requires.kept e.says e.stays e.«open» e.gathered e.others e.taken;
      };
      seat = refl;
      first = refl;
      same_ends = c.offer.ensures.joints;
    }

pub returns-clause-accepted : goal.returns-clause-accepted
returns-clause-accepted g c =
    grew_accepted c.peer-peer.result (g.S.Ends.accepted c.args.self.now.ends) (g.S.Ends.accepted c.offer.new.ends) c.in_ok-offered.ensures.grew c.in_ok-offered.ensures.others

pub returns-clause-waits : goal.returns-clause-waits
returns-clause-waits g c =
    let e = c.in_ok-offered.ensures in
    says_still c.peer-peer.result c.in_ok-offered.offered (g.S.Ends.accepted c.args.self.now.ends) (g.S.Ends.accepted c.offer.new.ends) (waiting c.args.self.now.outboxes) (waiting c.offer.new.self) e.moved e.says e.stays
