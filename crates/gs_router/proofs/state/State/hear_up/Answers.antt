use Rattle.std.proofs.Common.{refl}
use Rattle.gs_rules.specs.declared.event.Event.TheVariants.{Heard}
use Rattle.gs_rules.specs.Modes.{exact}
use Rattle.gs_rules.proofs.Legality.{exact_is_free}
use Rattle.gs_router.proofs.Hearing.{all_left, ends_short}
use Rattle.gs_router.proofs.Steps.{pays_all, stops}
use Rattle.gs_router.proofs.state.State.hear_up.Goals as goal

pub returns-in_err-clone_of : goal.returns-in_err-clone_of
returns-in_err-clone_of g c = stops (exact g.W.Words.word g.W.Words.after) (exact_is_free g.W.Words.word g.W.Words.after) (Heard c.args.from c.args.rpc.now) c.args.now c.args.self.now c.args.self.now c.args.words.now c.args.words.now c.from_residual.result c.from_residual.ensures.0 c.requires.ready.current refl refl

pub returns-in_err-step : goal.returns-in_err-step
returns-in_err-step g c = stops (exact g.W.Words.word g.W.Words.after) (exact_is_free g.W.Words.word g.W.Words.after) (Heard c.args.from c.args.rpc.now) c.args.now c.args.self.now c.step.new.self c.args.words.now c.step.new.words c.from_residual-in_err-step.result c.from_residual-in_err-step.ensures.0 c.requires.ready.current c.in_err-step.ensures.kept c.in_err-step.ensures.setup

pub hear_parts-requires : goal.hear_parts-requires
hear_parts-requires g c =
    (Heard c.args.from c.args.rpc.now, c.args.self.now, c.args.words.now, all_left c.in_ok-step.ensures c.in_ok-clone_of.ensures c.requires.listened)

pub returns-in_err-hear_parts : goal.returns-in_err-hear_parts
returns-in_err-hear_parts g c =
    let left = all_left c.in_ok-step.ensures c.in_ok-clone_of.ensures c.requires.listened in
    ends_short c.from_residual-in_err-hear_parts.ensures.0 (c.in_err-hear_parts.ensures.breaks _ _ _ left)

pub returns-in_err-hear_parts-2 : goal.returns-in_err-hear_parts-2
returns-in_err-hear_parts-2 g c =
    let left = all_left c.in_ok-step.ensures c.in_ok-clone_of.ensures c.requires.listened in
    let left-2 = c.in_ok-hear_parts.ensures.pays _ _ _ left in
    ends_short c.from_residual-in_err-hear_parts-2.ensures.0 (c.in_err-hear_parts-2.ensures.breaks _ _ _ left-2)

pub returns-in_err-hear_parts-3 : goal.returns-in_err-hear_parts-3
returns-in_err-hear_parts-3 g c =
    let left = all_left c.in_ok-step.ensures c.in_ok-clone_of.ensures c.requires.listened in
    let left-2 = c.in_ok-hear_parts.ensures.pays _ _ _ left in
    let left-3 = c.in_ok-hear_parts-2.ensures.pays _ _ _ left-2 in
    ends_short c.from_residual-in_err-hear_parts-3.ensures.0 (c.in_err-hear_parts-3.ensures.breaks _ _ _ left-3)

pub returns-in_err-hear_parts-4 : goal.returns-in_err-hear_parts-4
returns-in_err-hear_parts-4 g c =
    let left = all_left c.in_ok-step.ensures c.in_ok-clone_of.ensures c.requires.listened in
    let left-2 = c.in_ok-hear_parts.ensures.pays _ _ _ left in
    let left-3 = c.in_ok-hear_parts-2.ensures.pays _ _ _ left-2 in
    let left-4 = c.in_ok-hear_parts-3.ensures.pays _ _ _ left-3 in
    ends_short c.from_residual-in_err-hear_parts-4.ensures.0 (c.in_err-hear_parts-4.ensures.breaks _ _ _ left-4)

pub returns-in_err-hear_parts-5 : goal.returns-in_err-hear_parts-5
returns-in_err-hear_parts-5 g c =
    let left = all_left c.in_ok-step.ensures c.in_ok-clone_of.ensures c.requires.listened in
    let left-2 = c.in_ok-hear_parts.ensures.pays _ _ _ left in
    let left-3 = c.in_ok-hear_parts-2.ensures.pays _ _ _ left-2 in
    let left-4 = c.in_ok-hear_parts-3.ensures.pays _ _ _ left-3 in
    let left-5 = c.in_ok-hear_parts-4.ensures.pays _ _ _ left-4 in
    ends_short c.from_residual-in_err-hear_parts-5.ensures.0 (c.in_err-hear_parts-5.ensures.breaks _ _ _ left-5)

pub returns-in_err-hear_parts-6 : goal.returns-in_err-hear_parts-6
returns-in_err-hear_parts-6 g c =
    let left = all_left c.in_ok-step.ensures c.in_ok-clone_of.ensures c.requires.listened in
    let left-2 = c.in_ok-hear_parts.ensures.pays _ _ _ left in
    let left-3 = c.in_ok-hear_parts-2.ensures.pays _ _ _ left-2 in
    let left-4 = c.in_ok-hear_parts-3.ensures.pays _ _ _ left-3 in
    let left-5 = c.in_ok-hear_parts-4.ensures.pays _ _ _ left-4 in
    let left-6 = c.in_ok-hear_parts-5.ensures.pays _ _ _ left-5 in
    ends_short c.from_residual-in_err-hear_parts-6.ensures.0 (c.in_err-hear_parts-6.ensures.breaks _ _ _ left-6)

pub returns : goal.returns
returns g c =
    let left = all_left c.in_ok-step.ensures c.in_ok-clone_of.ensures c.requires.listened in
    let left-2 = c.in_ok-hear_parts.ensures.pays _ _ _ left in
    let left-3 = c.in_ok-hear_parts-2.ensures.pays _ _ _ left-2 in
    let left-4 = c.in_ok-hear_parts-3.ensures.pays _ _ _ left-3 in
    let left-5 = c.in_ok-hear_parts-4.ensures.pays _ _ _ left-4 in
    let left-6 = c.in_ok-hear_parts-5.ensures.pays _ _ _ left-5 in
    let left-7 = c.in_ok-hear_parts-6.ensures.pays _ _ _ left-6 in
    pays_all (exact g.W.Words.word g.W.Words.after) c.args.now (Heard c.args.from c.args.rpc.now) c.args.self.now c.hear_parts-6.new.self c.args.words.now c.hear_parts-6.new.words c.in_ok-hear_parts-6.field-0 left-7
