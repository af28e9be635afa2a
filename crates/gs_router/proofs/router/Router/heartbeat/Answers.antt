use Rattle.std.proofs.Common.{◌≤◌, ◌∙◌, sym}
use Rattle.gs_rules.specs.declared.event.Event.TheVariants.{BeatBegin}
use Rattle.gs_rules.specs.Tables.{last_moment}
use Rattle.gs_rules.specs.Modes.{exact}
use Rattle.gs_router.specs.Known.{peer_with}
use Rattle.gs_router.proofs.Calls.{ends_call, may_beat, refuses}
use Rattle.gs_router.proofs.router.Router.heartbeat.Goals as goal

pub returns-in-Some : goal.returns-in-Some
returns-in-Some g c =
    let s = c.self.inside.state in
    let ready = c.self.invariant.ready c.if-self.false in
    let time : last_moment s.trace ≤ c.args.now.0 = rw (← c.self.view_is) at c.requires in
    rw (← c.self.view_is) (refuses (exact g.W.Words.word g.W.Words.after) BeatBegin c.args.now _ c.args.words.now c.refusal_of_anything.result c.in-Some.why c.if-self.false (c.refusal_of_anything.ensures s.trace ready.current.agrees) c.in-Some.is c.self.invariant.legal)

pub heartbeat-done-requires-clause-may : goal.heartbeat-done-requires-clause-may
heartbeat-done-requires-clause-may g c =
    let s = c.self.inside.state in
    let ready = c.self.invariant.ready c.if-self.false in
    let time : last_moment s.trace ≤ c.args.now.0 = rw (← c.self.view_is) at c.requires in
    may_beat (peer_with s.known.setup) s.trace c.args.now.0 (sym (c.refusal_of_anything.ensures s.trace ready.current.agrees) ∙ c.in_default.is)

pub returns : goal.returns
returns g c =
    let s = c.self.inside.state in
    let ready = c.self.invariant.ready c.if-self.false in
    let time : last_moment s.trace ≤ c.args.now.0 = rw (← c.self.view_is) at c.requires in
    rw (← c.self.view_is) (ends_call (exact g.W.Words.word g.W.Words.after) BeatBegin c.args.now s c.heartbeat-done.new.self c.args.words.now c.heartbeat-done.new.words c.self.inside.is_stopped c.ended.new.is_stopped c.if-self.false c.heartbeat-done.result c.ended.result c.ended.ensures.answer c.ended.ensures.stopped (sym (c.refusal_of_anything.ensures s.trace ready.current.agrees) ∙ c.in_default.is) c.heartbeat-done.ensures)
