use Rattle.std.proofs.Common.{◌∙◌, ℕ, nat_eq, List, ap}
use Rattle.std.specs.List.{list_any}
use Rattle.std.specs.Cmp.Lexicographic.{pointwise}
use Rattle.gs_plan.specs.declared.plan.PlannedPeer.{PlannedPeer}
use Rattle.gs_scenario.specs.declared.scenario.keys.Name.{Name}
use Rattle.gs_scenario.proofs.ByKey.{a_name_is_found}
use Rattle.gs_scenario.proofs.scenario.peers.is_named.Goals as goal

pub returns : goal.returns
returns c = c.has.ensures
    ∙ ap (λ (name : List ℕ). list_any (λ (x : PlannedPeer). pointwise nat_eq name x.name) c.args.peers.now) (ap (λ (name : Name). name.0) c.in_ok-name.ensures)
    ∙ a_name_is_found c.args.peers.now c.args.name.now
