use Rattle.std.proofs.Common.{length}
use Rattle.gs_program.proofs.options.+has_option.Given as goal

abbrev pub decreases-has_option : goal.decreases-has_option
decreases-has_option l = length l.given.now
