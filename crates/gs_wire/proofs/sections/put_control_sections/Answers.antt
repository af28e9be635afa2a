use Rattle.std.proofs.Common.{arith, rules}
use Rattle.std.proofs.lemmas.Grind.{common_steps}
use Rattle.gs_wire.proofs.ControlKinds.{control_stands}
use Rattle.gs_wire.proofs.sections.put_control_sections.Goals as goal

pub returns-clause-stand : goal.returns-clause-stand
returns-clause-stand c = control_stands c.args.buffer.now.items _ _ c.args.control.now (grind (arith, common_steps)) (search rules)
