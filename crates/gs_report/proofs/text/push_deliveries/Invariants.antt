use Rattle.std.proofs.Common.{◌≡◌, ◌++◌, take}
use Rattle.std.specs.List.{flat_map}
use Rattle.gs_report.specs.Text.{delivered_line}
use Rattle.gs_report.proofs.text.push_deliveries.Given as goal

-- the lines of the deliveries so far come after what was there
abbrev pub invariant-loop-delivery : goal.invariant-loop-delivery
invariant-loop-delivery l =
    l.text.items ≡ l.initial.text.items ++ flat_map (delivered_line l.name l.at) (take l.delivery-index l.deliveries)
