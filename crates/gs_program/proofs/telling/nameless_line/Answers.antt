use Rattle.std.proofs.Common.{◌≡◌, codes, None, refl}
use Rattle.std.specs.Fmt.{digits}
use Rattle.gs_plan.specs.declared.plan.Plan.{Plan}
use Rattle.gs_seats.specs.declared.fault.NetFault.TheVariants.{NoMemory, NoThread}
use Rattle.gs_program.specs.Program.{run_refusal_line}
use Rattle.gs_program.proofs.telling.nameless_line.Goals as goal

line_of_no_memory : (plan : Plan) → codes "run refused: 24\n" ≡ run_refusal_line plan (NoMemory None)
unfolding digits
line_of_no_memory plan = refl

line_of_no_thread : (plan : Plan) → codes "run refused: 25\n" ≡ run_refusal_line plan NoThread
unfolding digits
line_of_no_thread plan = refl

pub returns-in-NoMemory : goal.returns-in-NoMemory
returns-in-NoMemory c plan = rw (c.in-NoMemory.is) (line_of_no_memory plan)

pub returns-in-NoThread : goal.returns-in-NoThread
returns-in-NoThread c plan = rw (c.in-NoThread.is) (line_of_no_thread plan)
