use Rattle.std.proofs.Common.{◌++◌, drop}
use Rattle.gs_rules.specs.Modes.{exact}
use Rattle.gs_router.specs.State.{AreLeft, Pays}
use Rattle.gs_rules.specs.Parts.{events_of}
use Rattle.gs_router.proofs.state.State.hear_parts.Given as goal

abbrev pub invariant-loop-place : goal.invariant-loop-place
invariant-loop-place g l =
    AreLeft (exact g.W.Words.word g.W.Words.after) l.now
    (events_of g.P.HeardPart.as_part l.fn.from (drop l.place (g.P.Part.parts l.fn.rpc)) ++ g.P.HeardPart.after l.fn.from l.fn.rpc) l.self l.words
    × Pays (exact g.W.Words.word g.W.Words.after) l.now
    (events_of g.P.HeardPart.as_part l.fn.from (g.P.Part.parts l.fn.rpc) ++ g.P.HeardPart.after l.fn.from l.fn.rpc) l.fn.self l.fn.words
    (events_of g.P.HeardPart.as_part l.fn.from (drop l.place (g.P.Part.parts l.fn.rpc)) ++ g.P.HeardPart.after l.fn.from l.fn.rpc) l.self l.words
