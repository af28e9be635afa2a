use Rattle.std.proofs.Common.{length}
use Rattle.gs_program.proofs.options.+most_for.Given as goal

abbrev pub decreases-most_for : goal.decreases-most_for
decreases-most_for l = length l.rules.now
