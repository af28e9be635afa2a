use Rattle.std.proofs.Common.{◌≡◌, ◌++◌, take}
use Rattle.gs_check.specs.FirstLine.{shown}
use Rattle.gs_check.proofs.first_line.push_shown.Given as goal

-- the bytes so far stand as they are shown after what was there
abbrev pub invariant-loop-byte : goal.invariant-loop-byte
invariant-loop-byte l = l.line.items ≡ l.initial.line.items ++ shown (take l.byte-index l.text)
