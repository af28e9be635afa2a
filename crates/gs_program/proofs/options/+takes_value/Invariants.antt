use Rattle.std.proofs.Common.{length}
use Rattle.gs_program.proofs.options.+takes_value.Given as goal

abbrev pub decreases-takes_value : goal.decreases-takes_value
decreases-takes_value l = length l.rules.now
