use Rattle.std.proofs.Common.{◌≡◌, ◌++◌, take}
use Rattle.std.specs.List.{flat_map}
use Rattle.gs_counts.specs.Heard.{fallen_happenings}
use Rattle.gs_counts.proofs.heard.note_all_fallen.Given as goal

-- what came to nothing so far comes after what was listed
abbrev pub invariant-loop-one : goal.invariant-loop-one
invariant-loop-one l = l.list.items ≡ l.initial.list.items ++ flat_map (fallen_happenings l.scene) (take l.one-index l.fallen)
