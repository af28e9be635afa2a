use Rattle.std.proofs.Common.{◌∙◌, sym, ap}
use Rattle.std.specs.Prelude.{is_some}
use Rattle.std.specs.List.{list_any}
use Rattle.gs_scenario.proofs.Places.{any_placed}
use Rattle.gs_scenario.proofs.scenario.indexed.Indexed.has.Goals as goal

pub returns : goal.returns
returns g c = c.contains_key.ensures ∙ ap is_some (c.self.invariant c.args.key.now)
    ∙ sym (any_placed (λ x. g.K.PartialEq.eq c.args.key.now (g.T.Keyed.key_of x)) c.self.inside.list)
    ∙ ap (list_any (λ x. g.K.PartialEq.eq c.args.key.now (g.T.Keyed.key_of x))) c.self.view_is
