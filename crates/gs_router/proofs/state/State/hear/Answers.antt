use Rattle.std.proofs.Common.{refl}
use Rattle.gs_rules.specs.Legal.{hearing}
use Rattle.gs_rules.specs.Modes.{exact}
use Rattle.gs_rules.proofs.Legality.{exact_is_free}
use Rattle.gs_router.proofs.Steps.{stops}
use Rattle.gs_router.proofs.state.State.hear.Goals as goal

pub returns-in_err-rpc : goal.returns-in_err-rpc
returns-in_err-rpc g c = stops (exact g.W.Words.word g.W.Words.after) (exact_is_free g.W.Words.word g.W.Words.after) (hearing c.args.self.now.trace c.args.from c.args.rpc) c.args.now c.args.self.now c.args.self.now c.args.words.now c.args.words.now c.from_residual.result c.from_residual.ensures.0 c.requires.ready.current refl refl
