use Rattle.std.proofs.Common.{arith}
use Rattle.gs_rules.specs.Modes.{exact}
use Rattle.gs_rules.proofs.Legality.{exact_is_free}
use Rattle.gs_router.proofs.Steps.{followed, knows}
use Rattle.gs_router.specs.Known.{peer_with}
use Rattle.gs_router.proofs.Beating.{beats_are_few}
use Rattle.gs_router.proofs.Standing.{counted_decays_are_few}
use Rattle.gs_router.proofs.state.State.step_with.Goals as goal

pub append-requires-clause-few : goal.append-requires-clause-few
append-requires-clause-few g c =
    let a = c.args.self.now in
    counted_decays_are_few (peer_with a.known.setup) a.known.tables.standings a.trace c.requires.current.scores

pub append-requires-clause-beats : goal.append-requires-clause-beats
append-requires-clause-beats g c =
    let a = c.args.self.now in
    beats_are_few a.known.tables.beats a.trace c.requires.current.agrees.beats

pub append-requires-clause-time : goal.append-requires-clause-time
append-requires-clause-time g c = omega (arith, c.requires.current.agrees.sightings.past, c.requires.time)

pub returns : goal.returns
returns g c =
    let a = c.args.self.now in
    followed (exact g.W.Words.word g.W.Words.after) (exact_is_free g.W.Words.word g.W.Words.after) c.args.event c.args.now a c.append.new.self c.args.words.now c.effects_of.new.words c.in_ok-effects.effects c.append.result c.requires.current c.requires.time c.requires.next (c.in_ok-effects.ensures a.trace (knows a c.args.now.0 c.requires.current c.requires.time)) c.append.ensures.added c.append.ensures.agrees c.append.ensures.scores c.append.ensures.made c.append.ensures.kept c.append.ensures.setup
