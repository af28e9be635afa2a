use Rattle.std.proofs.Common.{[], length, refl, rules, ◌∙◌}
use Rattle.gs_params.specs.Seeding.{seeded_after, seeded_word}
use Rattle.gs_rules.specs.Modes.{exact}
use Rattle.gs_rules.specs.Rounds as rounds
use Rattle.gs_peer.specs.Life.{words_of}
use Rattle.gs_peer.specs.Running.{seat_of}
use Rattle.gs_peer.proofs.Inbound.{all_fit}
use Rattle.gs_peer.proofs.Played.{runs_at}
use Rattle.gs_peer.proofs.Tasks.{at_round, goes_by, plays_last, plays_on, told_before, told_twice}
use Rattle.gs_player.proofs.Since.{counted}
use Rattle.gs_peer.proofs.running.Running.play.Goals as goal

pub play-requires-clause-running : goal.play-requires-clause-running
play-requires-clause-running g c =
    let t = c.args.self.now in
    let r = c.args.round in
    let k = at_round (seat_of t) (words_of (g.S.Ends.taken t.ends)) (words_of (g.S.Ends.accepted t.ends)) t.phase r t.player.inboxes.items t.outboxes t.player.router t.player.refused.items t.first.value t.player.words c.requires.phase c.requires.kept.kept in
    runs_at (seat_of t) (words_of (g.S.Ends.taken t.ends)) (words_of (g.S.Ends.accepted t.ends)) (rounds.Playing r) t.player.inboxes.items t.outboxes t.player.router t.player.refused.items t.first.value t.player.words k

pub play-requires-clause-fit : goal.play-requires-clause-fit
play-requires-clause-fit g c =
    let t = c.args.self.now in
    let r = c.args.round in
    let k = at_round (seat_of t) (words_of (g.S.Ends.taken t.ends)) (words_of (g.S.Ends.accepted t.ends)) t.phase r t.player.inboxes.items t.outboxes t.player.router t.player.refused.items t.first.value t.player.words c.requires.phase c.requires.kept.kept in
    all_fit (seat_of t) (rounds.Playing r) t.player.router.trace (words_of (g.S.Ends.taken t.ends)) t.player.inboxes.items k.hears

pub tell_since-requires-clause-known : goal.tell_since-requires-clause-known
tell_since-requires-clause-known g c =
    let t = c.args.self.now in
    let e = c.in_ok-play.ensures in
    let m = exact seeded_word seeded_after in
    told_before m _ _ t.player.router c.play.new.self.router t.player.words c.play.new.self.words e.more (length c.entries-told.result.now) e.runs (counted c.entries-told.result.now t.player.router.trace (c.entries-told.ensures ∙ c.trace.ensures))

pub returns-then-round-self-clause-goes : goal.returns-then-round-self-clause-goes
returns-then-round-self-clause-goes g c =
    let t = c.args.self.now in
    let r = c.args.round in
    let e = c.in_ok-play.ensures in
    let said = words_of (g.S.Ends.taken t.ends) in
    let sent = words_of (g.S.Ends.accepted t.ends) in
    let count = counted c.entries-told.result.now t.player.router.trace (c.entries-told.ensures ∙ c.trace.ensures) in
    goes_by g.S.Ends t _ refl refl refl e.runs.peer c.requires.kept
    (plays_on (seat_of t) said sent t.phase r (length c.entries-told.result.now) t.assignment.lines t.player c.play.new.self t.outboxes c.tell_since.new.outboxes t.first.value c.requires.kept.kept c.requires.phase c.requires.full refl e count
    (search rules) (search rules))

pub tell_since-requires-2-clause-known : goal.tell_since-requires-2-clause-known
tell_since-requires-2-clause-known g c =
    let t = c.args.self.now in
    let e = c.in_ok-play.ensures in
    let f = c.in_ok-shut.ensures.runs in
    let m = exact seeded_word seeded_after in
    told_twice m _ _ _ t.player.router c.play.new.self.router c.shut.new.self.router t.player.words c.play.new.self.words c.shut.new.self.words e.more [] (length c.entries-told.result.now) e.runs f (counted c.entries-told.result.now t.player.router.trace (c.entries-told.ensures ∙ c.trace.ensures))

pub returns-clause-goes : goal.returns-clause-goes
returns-clause-goes g c =
    let t = c.args.self.now in
    let r = c.args.round in
    let e = c.in_ok-play.ensures in
    let said = words_of (g.S.Ends.taken t.ends) in
    let sent = words_of (g.S.Ends.accepted t.ends) in
    let count = counted c.entries-told.result.now t.player.router.trace (c.entries-told.ensures ∙ c.trace.ensures) in
    goes_by g.S.Ends t _ refl refl refl (c.in_ok-shut.ensures.runs.peer ∙ e.runs.peer) c.requires.kept
    (plays_last (seat_of t) said sent t.phase r (length c.entries-told.result.now) t.assignment.lines t.player c.play.new.self t.outboxes c.tell_since-2.new.outboxes t.first.value c.requires.kept.kept c.requires.phase c.requires.full refl e count
    c.shut.new.self (search rules) c.in_ok-shut.ensures.runs c.in_ok-shut.ensures.refused c.in_ok-shut.ensures.inboxes (search rules))
