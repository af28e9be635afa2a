use Rattle.std.proofs.Common.{◌≡◌, ◌++◌, take}
use Rattle.std.specs.List.{flat_map}
use Rattle.gs_sheets.specs.Texts.{escaped}
use Rattle.gs_sheets.proofs.texts.push_escaped_all.Given as goal

-- the bytes so far come after what was there
abbrev pub invariant-loop-byte : goal.invariant-loop-byte
invariant-loop-byte l =
    l.text.items ≡ l.initial.text.items ++ flat_map escaped (take l.byte-index l.name)
