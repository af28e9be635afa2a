use Rattle.std.proofs.Common.{arith, ◌≡◌, ◌<◌, ◌∙◌, ◌++◌, [], length, drop, refl, ap, subst}
use Rattle.std.proofs.lemmas.List.{drop_all}
use Rattle.gs_base.specs.declared.rpc.Rpc.{Rpc as RpcValue}
use Rattle.gs_base.specs.Rpcs.{part_at}
use Rattle.gs_rules.specs.declared.event.Event.{Event as EventValue}
use Rattle.gs_rules.specs.Modes.{exact}
use Rattle.gs_router.specs.State.{AreLeft, Pays}
use Rattle.gs_rules.specs.Parts.{events_of}
use Rattle.gs_router.proofs.Hearing.{on_err, part_is_due, part_is_paid}
use Rattle.gs_router.proofs.state.State.hear_parts.Goals as goal

pub loop-place-init : goal.loop-place-init
loop-place-init g c = (c.requires, λ event a s h. h)

pub returns-in_err-clone_of-clause-breaks : goal.returns-in_err-clone_of-clause-breaks
returns-in_err-clone_of-clause-breaks g c =
    on_err c.from_residual.result
    (λ event a s h. record { reached = c.loop-place.self; words = c.loop-place.words; left = _; paying = c.loop-place.invariant.1 event a s h; kept = refl; setup = refl })

pub step_with-requires-clause-current : goal.step_with-requires-clause-current
step_with-requires-clause-current g c = c.loop-place.invariant.0.3.current

pub step_with-requires-clause-time : goal.step_with-requires-clause-time
step_with-requires-clause-time g c = omega (arith, c.loop-place.invariant.0.3.moment)

pub step_with-requires-clause-next : goal.step_with-requires-clause-next
step_with-requires-clause-next g c =
    let below : c.loop-place.place < length (g.P.Part.parts c.args.rpc.now) = omega (arith, c.loop-place-test.true, ap length (c.parts_of-place-end.ensures ∙ ap g.P.Part.parts c.get.ensures)) in
    let is : c.heard_at-part.result ≡ g.P.HeardPart.as_part (part_at g.P.Part.bare (g.P.Part.parts c.args.rpc.now) c.loop-place.place) =
    c.heard_at-part.ensures ∙ ap (λ (rpc : RpcValue). g.P.HeardPart.as_part (part_at g.P.Part.bare (g.P.Part.parts rpc) c.loop-place.place)) c.in_ok-clone_of.ensures in
    let left = c.loop-place.invariant.0 in
    part_is_due (exact g.W.Words.word g.W.Words.after) c.args.now c.args.from g.P.HeardPart.as_part g.P.Part.bare (g.P.Part.parts c.args.rpc.now) (g.P.HeardPart.after c.args.from c.args.rpc.now) c.loop-place.place c.heard_at-part.result below is left.0 left.1 c.loop-place.self left.2 c.loop-place.words left.3

pub returns-in_err-step_with-clause-breaks : goal.returns-in_err-step_with-clause-breaks
returns-in_err-step_with-clause-breaks g c =
    on_err c.from_residual-in_err-step_with.result
    (λ event a s h. record {
      reached = c.loop-place.self;
      words = c.loop-place.words;
      left = _;
      paying = c.loop-place.invariant.1 event a s h;
      kept = c.in_err-step_with.ensures.kept;
      setup = c.in_err-step_with.ensures.setup;
    })

pub loop-place-preserved : goal.loop-place-preserved
loop-place-preserved g c =
    let below : c.loop-place.place < length (g.P.Part.parts c.args.rpc.now) = omega (arith, c.loop-place-test.true, ap length (c.parts_of-place-end.ensures ∙ ap g.P.Part.parts c.get.ensures)) in
    let is : c.heard_at-part.result ≡ g.P.HeardPart.as_part (part_at g.P.Part.bare (g.P.Part.parts c.args.rpc.now) c.loop-place.place) =
    c.heard_at-part.ensures ∙ ap (λ (rpc : RpcValue). g.P.HeardPart.as_part (part_at g.P.Part.bare (g.P.Part.parts rpc) c.loop-place.place)) c.in_ok-clone_of.ensures in
    let left = c.loop-place.invariant.0 in
    let paid = λ (event : EventValue) (a : _) (s : g.row.W.Denot).
    part_is_paid (exact g.W.Words.word g.W.Words.after) c.args.now c.args.from g.P.HeardPart.as_part g.P.Part.bare (g.P.Part.parts c.args.rpc.now) (g.P.HeardPart.after c.args.from c.args.rpc.now) c.loop-place.place c.heard_at-part.result below is event a c.loop-place.self c.step_with.new.self s c.loop-place.words c.step_with.new.words c.in_ok-step_with.field-0 c.in_ok-step_with.ensures in
    ((left.0, left.1, left.2, paid left.0 left.1 left.2 left.3), λ event a s h. paid event a s (c.loop-place.invariant.1 event a s h))

pub returns-clause-left : goal.returns-clause-left
returns-clause-left g c =
    let none : drop c.loop-place.place (g.P.Part.parts c.args.rpc.now) ≡ [] = drop_all c.loop-place.place (g.P.Part.parts c.args.rpc.now) (omega (arith, c.loop-place-test.false, ap length (c.parts_of-place-end.ensures ∙ ap g.P.Part.parts c.get.ensures))) in
    subst (λ xs. AreLeft (exact g.W.Words.word g.W.Words.after) c.args.now (events_of g.P.HeardPart.as_part c.args.from xs ++ (g.P.HeardPart.after c.args.from c.args.rpc.now)) c.loop-place.self c.loop-place.words) none c.loop-place.invariant.0

pub returns-clause-pays : goal.returns-clause-pays
returns-clause-pays g c =
    let none : drop c.loop-place.place (g.P.Part.parts c.args.rpc.now) ≡ [] = drop_all c.loop-place.place (g.P.Part.parts c.args.rpc.now) (omega (arith, c.loop-place-test.false, ap length (c.parts_of-place-end.ensures ∙ ap g.P.Part.parts c.get.ensures))) in
    subst
    (λ xs. Pays (exact g.W.Words.word g.W.Words.after) c.args.now (events_of g.P.HeardPart.as_part c.args.from (g.P.Part.parts c.args.rpc.now) ++ (g.P.HeardPart.after c.args.from c.args.rpc.now)) c.args.self.now c.args.words.now (events_of g.P.HeardPart.as_part c.args.from xs ++ (g.P.HeardPart.after c.args.from c.args.rpc.now)) c.loop-place.self c.loop-place.words)
    none c.loop-place.invariant.1
