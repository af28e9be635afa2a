use Rattle.std.proofs.Common.{◌≡◌, ℕ, ◌<◌, ◌-◌, ◌^◌, min, length, take}
use Rattle.gs_wire.specs.Records.{records_text}
use Rattle.gs_wire.specs.Fields.{repeated_records}
use Rattle.gs_wire.proofs.encoding.repeated_len.Given as goal

-- the length of the values so far
abbrev pub invariant-loop-bytes : goal.invariant-loop-bytes
invariant-loop-bytes l = (field : ℕ) → field < 16 → l.total ≡ min (2 ^ 64 - 1) (length (records_text (repeated_records field (take l.bytes-index l.values))))
