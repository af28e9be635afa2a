use Rattle.std.proofs.Common.{[], ◌∷◌, drop, map}
use Rattle.gs_rules.specs.declared.event.Event.TheVariants.{BeatBegin, Step}
use Rattle.gs_rules.specs.declared.event.BeatStep.TheVariants.{MeshBeat}
use Rattle.gs_rules.specs.Owed.{FanBeats, Gossips, beats}
use Rattle.gs_rules.specs.Modes.{exact}
use Rattle.gs_router.specs.Beats.{event_of}
use Rattle.gs_router.specs.State.{Paying}
use Rattle.gs_router.proofs.state.State.heartbeat.Given as goal

abbrev pub invariant-loop-own : goal.invariant-loop-own
invariant-loop-own g l =
    Paying (exact g.W.Words.word g.W.Words.after) l.now BeatBegin l.fn.self l.fn.words l.self l.words
    (map (λ t. Step (MeshBeat t)) (drop l.own-index l.own-items)) (FanBeats l.now.0 ∷ Gossips ∷ [])

abbrev pub invariant-loop-fanout : goal.invariant-loop-fanout
invariant-loop-fanout g l =
    Paying (exact g.W.Words.word g.W.Words.after) l.now BeatBegin l.fn.self l.fn.words l.self l.words
    (map event_of (drop l.fanout-index l.fanout-items)) (Gossips ∷ [])

abbrev pub invariant-loop-topic : goal.invariant-loop-topic
invariant-loop-topic g l =
    Paying (exact g.W.Words.word g.W.Words.after) l.now BeatBegin l.fn.self l.fn.words l.self l.words
    (beats (drop l.topic-index l.topic-items)) []
