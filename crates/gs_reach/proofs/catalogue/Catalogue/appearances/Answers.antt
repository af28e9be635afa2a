use Rattle.std.proofs.Common.{◌∙◌, ap}
use Rattle.gs_reach.specs.declared.keys.TopicPayload.{TopicPayload}
use Rattle.gs_reach.specs.Filed.{found, same_said}
use Rattle.gs_reach.proofs.catalogue.Catalogue.appearances.Goals as goal

pub returns : goal.returns
returns c =
    rw (← c.self.view_is)
    (c.found-appearances.ensures ∙ ap (λ (k : TopicPayload). found same_said c.self.inside.published k) c.in_ok-said.ensures
    ∙ c.self.invariant.0 c.args.message.now)
