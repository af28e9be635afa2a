use Rattle.std.proofs.Common.{◌∙◌, sym}
use Rattle.gs_rules.specs.Modes.{exact}
use Rattle.gs_router.specs.Known.{peer_with}
use Rattle.gs_router.proofs.Calls.{ends_call, may_come, owes_plainly, refused_plainly, refuses}
use Rattle.gs_router.proofs.router.Router.open.Goals as goal

pub returns-in-Some : goal.returns-in-Some
returns-in-Some g c =
    let s = c.self.inside.state in
    let ready = c.self.invariant.ready c.if-self.false in
    let p = peer_with s.known.setup in
    let told = c.refusal_of_anything.ensures s.trace ready.current.agrees ∙ sym (refused_plainly p s.trace c.args.now.0 c.args.event c.requires.plain) in
    rw (← c.self.view_is) (refuses (exact g.W.Words.word g.W.Words.after) c.args.event c.args.now _ c.args.words.now c.refusal_of_anything.result c.in-Some.why c.if-self.false told c.in-Some.is c.self.invariant.legal)

pub open-done-requires-clause-may : goal.open-done-requires-clause-may
open-done-requires-clause-may g c =
    let s = c.self.inside.state in
    let ready = c.self.invariant.ready c.if-self.false in
    let p = peer_with s.known.setup in
    may_come p s.trace c.args.now.0 c.args.event c.requires.plain (refused_plainly p s.trace c.args.now.0 c.args.event c.requires.plain ∙ sym (c.refusal_of_anything.ensures s.trace ready.current.agrees) ∙ c.in_default.is)

pub open-done-requires-clause-alone : goal.open-done-requires-clause-alone
open-done-requires-clause-alone g c = let s = c.self.inside.state in owes_plainly (peer_with s.known.setup) s.trace c.args.now.0 c.args.event c.requires.plain

pub returns : goal.returns
returns g c =
    let s = c.self.inside.state in
    let ready = c.self.invariant.ready c.if-self.false in
    let p = peer_with s.known.setup in
    let free = refused_plainly p s.trace c.args.now.0 c.args.event c.requires.plain ∙ sym (c.refusal_of_anything.ensures s.trace ready.current.agrees) ∙ c.in_default.is in
    rw (← c.self.view_is) (ends_call (exact g.W.Words.word g.W.Words.after) c.args.event c.args.now s c.open-done.new.self c.args.words.now c.open-done.new.words c.self.inside.is_stopped c.ended.new.is_stopped c.if-self.false c.open-done.result c.ended.result c.ended.ensures.answer c.ended.ensures.stopped free c.open-done.ensures)
