use Rattle.std.proofs.Common.{◌≡◌, ◌++◌, take}
use Rattle.std.specs.List.{flat_map}
use Rattle.gs_report.specs.Text.{mesh_line}
use Rattle.gs_report.proofs.text.push_members.Given as goal

-- the lines of the members so far come after what was there
abbrev pub invariant-loop-member : goal.invariant-loop-member
invariant-loop-member l =
    l.text.items ≡ l.initial.text.items ++ flat_map (mesh_line l.plan l.name) (take l.member-index l.members)
