use Rattle.std.proofs.Common.{refl}
use Rattle.gs_rules.specs.declared.event.Event.TheVariants.{Own}
use Rattle.gs_rules.specs.Modes.{exact}
use Rattle.gs_rules.proofs.Legality.{exact_is_free}
use Rattle.gs_router.proofs.Steps.{stops}
use Rattle.gs_router.proofs.state.State.obey.Goals as goal

pub returns-in_err-act : goal.returns-in_err-act
returns-in_err-act g c = stops (exact g.W.Words.word g.W.Words.after) (exact_is_free g.W.Words.word g.W.Words.after) (Own c.args.act) c.args.now c.args.self.now c.args.self.now c.args.words.now c.args.words.now c.from_residual.result c.from_residual.ensures.0 c.requires.ready.current refl refl
