use Rattle.gs_trace.proofs.events.push_event.Goals as goal

pub returns-in-Late : goal.returns-in-Late
returns-in-Late c = rw c.in-Late.is c.push_rpc_of-in-Late.ensures
