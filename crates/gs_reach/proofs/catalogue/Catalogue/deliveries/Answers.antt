use Rattle.std.proofs.Common.{◌∙◌, ap}
use Rattle.gs_reach.specs.declared.keys.Payload.{Payload}
use Rattle.gs_reach.specs.Filed.{found, same_payload}
use Rattle.gs_reach.proofs.catalogue.Catalogue.deliveries.Goals as goal

pub returns : goal.returns
returns c =
    rw (← c.self.view_is)
    (c.found-deliveries.ensures ∙ ap (λ (k : Payload). found same_payload c.self.inside.delivered k) c.in_ok-payload.ensures
    ∙ c.self.invariant.1 c.args.payload.now)
