use Rattle.std.proofs.Common.{refl}
use Rattle.gs_opinions.proofs.Numbered.{numbered_more}
use Rattle.gs_opinions.proofs.cells.filled.Goals as goal

pub loop-preserved : goal.loop-preserved
loop-preserved g c = numbered_more (λ n. c.args.value) c.loop.counter c.loop.cells c.push.new.self c.args.value c.loop.invariant refl c.in_ok-push.ensures
