use Rattle.std.proofs.Common.{arith}
use Rattle.std.proofs.lemmas.Grind.{common_steps}
use Rattle.gs_program.proofs.progress.round_words.Goals as goal

pub returns : goal.returns
returns c = grind (arith, common_steps, c.in_ok-format.ensures.ok)
