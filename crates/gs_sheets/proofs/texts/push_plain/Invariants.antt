use Rattle.std.proofs.Common.{◌≡◌, ◌++◌, take}
use Rattle.std.specs.List.{flat_map}
use Rattle.gs_sheets.specs.Texts.{printable}
use Rattle.gs_sheets.proofs.texts.push_plain.Given as goal

-- the bytes so far come after what was there
abbrev pub invariant-loop-byte : goal.invariant-loop-byte
invariant-loop-byte l =
    l.text.items ≡ l.initial.text.items ++ flat_map printable (take l.byte-index l.name)
