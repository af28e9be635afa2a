use Rattle.std.proofs.Common.{length}
use Rattle.gs_program.proofs.options.+times.Given as goal

abbrev pub decreases-times : goal.decreases-times
decreases-times l = length l.given.now
