use Rattle.std.proofs.Common.{◌≡◌, drop}
use Rattle.std.specs.List.{list_any}
use Rattle.gs_trace.proofs.topics.any_names.Given as goal

-- whether one of the values names it is whether one of those that are left does
abbrev pub invariant-loop-value : goal.invariant-loop-value
invariant-loop-value g l =
    list_any (g.T.Names.named l.topic) (drop l.value-index l.values) ≡ list_any (g.T.Names.named l.topic) l.values
