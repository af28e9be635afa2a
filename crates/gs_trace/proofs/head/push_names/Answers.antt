use Rattle.gs_plan.specs.declared.plan.PlannedPeer.{PlannedPeer}
use Rattle.gs_trace.specs.Texts.{quoted}
use Rattle.gs_trace.proofs.Named.{named}
use Rattle.gs_trace.proofs.head.push_names.Goals as goal

pub returns : goal.returns
returns c = rw (← named quoted (λ (planned : PlannedPeer). planned.name) c.args.plan.now.peers) (rw c.as_slice.ensures at c.push_list.ensures)
