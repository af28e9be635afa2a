use Rattle.std.proofs.Common.{◌≡◌, None, flat_map, option_map, take}
use Rattle.gs_snapshots.specs.Loads.{amount_of, load_of, loads_on_topic}
use Rattle.gs_snapshots.specs.Noting.{lower_of_all}
use Rattle.gs_snapshots.proofs.loads.heaviest.Given as goal

-- the lowest of the parts of the topics so far
abbrev pub invariant-loop-told : goal.invariant-loop-told
invariant-loop-told l =
    option_map load_of l.found ≡ lower_of_all amount_of None (flat_map (loads_on_topic l.rules) (take l.told-index l.told-items))
