use Rattle.std.proofs.Common.{◌≡◌, ◌∙◌, Option, true, refl, sym, subst}
use Rattle.gs_rules.specs.declared.event.Event.{Event}
use Rattle.gs_rules.specs.declared.event.Event.TheVariants.{Lost}
use Rattle.gs_rules.specs.Tables.{up}
use Rattle.gs_rules.specs.Modes.{exact}
use Rattle.gs_router.specs.Router.{Calls, view_of}
use Rattle.gs_router.proofs.Calls.{ends_call, idles, loses}
use Rattle.gs_router.proofs.router.Router.lose.Goals as goal

pub returns-then-not-is_up : goal.returns-then-not-is_up
returns-then-not-is_up g c =
    let s = c.self.inside.state in
    let ready = c.self.invariant.ready c.if-self.false in
    rw (← c.self.view_is) (idles (exact g.W.Words.word g.W.Words.after) c.args.now _ c.args.words.now c.args.peer (Lost c.args.peer c.args.loss) c.if-self.false (sym (c.is_up.ensures s.trace ready.current.agrees.neighbours) ∙ c.if-not-is_up.true) c.self.invariant.legal)

pub returns : goal.returns
returns g c =
    let s = c.self.inside.state in
    let ready = c.self.invariant.ready c.if-self.false in
    let event : Event = Lost c.args.peer c.args.loss in
    let is_up : up s.trace c.args.peer ≡ true = sym (c.is_up.ensures s.trace ready.current.agrees.neighbours) ∙ c.if-not-is_up.false in
    let call = ends_call (exact g.W.Words.word g.W.Words.after) event c.args.now s c.open-done.new.self c.args.words.now c.open-done.new.words c.self.inside.is_stopped c.ended.new.is_stopped c.if-self.false c.open-done.result c.ended.result c.ended.ensures.answer c.ended.ensures.stopped refl c.open-done.ensures in
    rw (← c.self.view_is) (subst (λ (o : Option Event). Calls (exact g.W.Words.word g.W.Words.after) o c.args.now (view_of s c.self.inside.is_stopped) c.args.words.now c.ended.result (view_of c.open-done.new.self c.ended.new.is_stopped) c.open-done.new.words) (sym (loses s.trace c.args.peer event is_up)) call)
