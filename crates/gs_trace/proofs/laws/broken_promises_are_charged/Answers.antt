use Rattle.gs_trace.proofs.FallenLaws.{broken_are_charged}
use Rattle.gs_trace.proofs.laws.broken_promises_are_charged.Goals as goal

pub returns : goal.returns
returns c = broken_are_charged
