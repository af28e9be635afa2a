use Rattle.std.proofs.Common.{◌∙◌, arith}
use Rattle.gs_wire.proofs.Gathering.{none_of_none}
use Rattle.gs_wire.proofs.gathered_rpcs.GatheredRpcs.is_empty.Goals as goal

pub returns : goal.returns
returns c =
    rw (← c.self.view_is) (c.is_empty.ensures ∙ none_of_none c.self.inside.rpcs.items _ (omega (arith, c.self.inside.rpcs.ok)))
