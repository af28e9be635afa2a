use Rattle.std.proofs.Common.{◌≡◌, ◌++◌, take}
use Rattle.std.specs.List.{flat_map}
use Rattle.gs_report.specs.Text.{lines_of}
use Rattle.gs_report.proofs.text.push_section.Given as goal

-- the lines of the peers so far come after what was there
abbrev pub invariant-loop-peer : goal.invariant-loop-peer
invariant-loop-peer l =
    l.text.items ≡ l.initial.text.items ++ flat_map (lines_of l.section l.plan) (take l.peer-index l.peers)
