use Rattle.std.proofs.Common.{◌≡◌, ◌*◌, ◌∙◌, List, rules, ap, subst}
use Rattle.gs_rules.specs.declared.refusal.RefusedLine.{RefusedLine}
use Rattle.gs_rules.specs.Peers.{Peer}
use Rattle.gs_rules.specs.Rounds as rounds
use Rattle.gs_rules.specs.Results.{scores_of}
use Rattle.gs_peer.specs.Life.{words_of}
use Rattle.gs_peer.specs.Phases.{phase_of}
use Rattle.gs_peer.specs.Running.{seat_of}
use Rattle.gs_peer.proofs.Inbound.{all_fit}
use Rattle.gs_peer.proofs.Played.{WholeLife, life, runs_at}
use Rattle.gs_peer.proofs.Tasks.{at_close}
use Rattle.gs_peer.proofs.running.Running.final_state.Goals as goal

pub hear-requires-clause-running : goal.hear-requires-clause-running
hear-requires-clause-running g c =
    let t = c.args.self.now in
    let said = words_of (g.S.Ends.taken t.ends) in
    let sent = words_of (g.S.Ends.accepted t.ends) in
    let k = at_close (seat_of t) said sent t.phase t.player.inboxes.items t.outboxes t.player.router t.player.refused.items t.first.value t.player.words c.requires.over.phase c.requires.kept.kept in
    runs_at (seat_of t) said sent rounds.Closing t.player.inboxes.items t.outboxes t.player.router t.player.refused.items t.first.value t.player.words k

pub hear-requires-clause-fit : goal.hear-requires-clause-fit
hear-requires-clause-fit g c =
    let t = c.args.self.now in
    all_fit (seat_of t) (phase_of t.phase) t.player.router.trace (words_of (g.S.Ends.taken t.ends)) t.player.inboxes.items c.requires.kept.kept.hears

pub returns-clause-life : goal.returns-clause-life
returns-clause-life g c =
    let t = c.args.self.now in
    let said = words_of (g.S.Ends.taken t.ends) in
    let sent = words_of (g.S.Ends.accepted t.ends) in
    let runs = c.in_ok-hear.ensures.runs in
    let k = at_close (seat_of t) said sent t.phase t.player.inboxes.items t.outboxes t.player.router t.player.refused.items t.first.value t.player.words c.requires.over.phase c.requires.kept.kept in
    let w : WholeLife (seat_of t) said sent t.first.value c.hear.new.self.router.trace t.player.refused.items =
    life (seat_of t) said sent t.outboxes t.first.value t.player.inboxes.items t.player.router c.hear.new.self.router t.player.words c.hear.new.self.words t.player.refused.items k c.requires.over.full c.requires.over.silent runs in
    let same : t.player.refused.items ≡ c.hear.new.self.refused.items = search rules in
    let peers : scores_of c.hear.new.self.router.peer c.hear.new.self.router.trace (t.assignment.rounds * t.assignment.round_ms) ≡ scores_of t.player.router.peer c.hear.new.self.router.trace (t.assignment.rounds * t.assignment.round_ms) = ap (λ (p : Peer). scores_of p c.hear.new.self.router.trace (t.assignment.rounds * t.assignment.round_ms)) runs.peer in
    let all = subst (λ (rs : List RefusedLine). WholeLife (seat_of t) said sent t.first.value c.hear.new.self.router.trace rs) same w in
    record { legal = all.legal; keeps = all.keeps; meshes = c.in_ok-meshes.ensures runs.runs_on.running; scores = c.in_ok-scores.ensures runs.runs_on.running ∙ peers; handles = all.handles; says = all.says; none_gathered = all.none_gathered; closed = all.closed }
