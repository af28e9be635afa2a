use Rattle.std.proofs.Common.{◌≡◌, ℕ, ◌<◌, ◌-◌, ◌^◌, min, length, take}
use Rattle.gs_wire.specs.Records.{records_text}
use Rattle.gs_wire.specs.Fields.{part_records}
use Rattle.gs_wire.proofs.encoding.parts_len.Given as goal

-- the length of the parts so far
abbrev pub invariant-loop-part : goal.invariant-loop-part
invariant-loop-part g l = (field : ℕ) → field < 16 → l.total ≡ min (2 ^ 64 - 1) (length (records_text (part_records g.M.Encode.records field (take l.part-index l.parts))))
