use Rattle.gs_direct.proofs.Carrying.{closed}
use Rattle.gs_direct.proofs.outlet.Outlet.close.Goals as goal

pub returns : goal.returns
returns c = closed c.args.self.now c.put_out.new.self c.in_ok-put_out.ensures.follows
