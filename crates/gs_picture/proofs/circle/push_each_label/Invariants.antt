use Rattle.std.proofs.Common.{◌≡◌, ◌++◌, take}
use Rattle.std.specs.List.{flat_map}
use Rattle.gs_picture.specs.Circle.{label_text}
use Rattle.gs_picture.proofs.circle.push_each_label.Given as goal

-- the names so far come after what was there
abbrev pub invariant-loop-disc : goal.invariant-loop-disc
invariant-loop-disc l = l.text.items ≡ l.initial.text.items ++ flat_map (label_text l.plan l.count) (take l.disc-index l.discs)
