use Rattle.std.proofs.Common.{◌∙◌}
use Rattle.gs_router.proofs.Sighting.{nears_so}
use Rattle.gs_router.proofs.tables.sightings.Sightings.is_near.Goals as goal

pub returns : goal.returns
returns c = λ L id agrees below is. c.is_near.ensures ∙ nears_so c.args.self.now L id c.args.peer c.args.now.0 c.args.window.0 c.args.sighting.now agrees below is
