use Rattle.std.proofs.Common.{rules}
use Rattle.gs_mesh.specs.Cuts.{outbound_lacking}
use Rattle.gs_mesh.proofs.cut.outbound_lacking.Goals as goal

pub returns : goal.returns
unfolding outbound_lacking
returns c = search rules
