use Rattle.std.proofs.Common.{length}
use Rattle.gs_program.proofs.options.+given_from.Given as goal

abbrev pub decreases-given_from : goal.decreases-given_from
decreases-given_from l = length l.arguments.now
