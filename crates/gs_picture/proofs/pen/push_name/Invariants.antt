use Rattle.std.proofs.Common.{◌≡◌, ◌++◌, take}
use Rattle.gs_picture.specs.Texts.{escaped_all}
use Rattle.gs_picture.proofs.pen.push_name.Given as goal

-- the bytes so far come after what was there
abbrev pub invariant-loop-byte : goal.invariant-loop-byte
invariant-loop-byte l = l.text.items ≡ l.initial.text.items ++ escaped_all (take l.byte-index l.name)
