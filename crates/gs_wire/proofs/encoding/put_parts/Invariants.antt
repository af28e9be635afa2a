use Rattle.std.proofs.Common.{◌≡◌, ◌≤◌, ◌++◌, take, vec_capacity}
use Rattle.gs_wire.specs.Records.{records_text}
use Rattle.gs_wire.specs.Fields.{part_records}
use Rattle.gs_wire.proofs.encoding.put_parts.Given as goal

-- the parts so far were written
abbrev pub invariant-loop-part : goal.invariant-loop-part
invariant-loop-part g l = record {
  written : l.buffer.items ≡ l.initial.buffer.items ++ records_text (part_records g.M.Encode.records l.field (take l.part-index l.parts));
  capacity : vec_capacity l.initial.buffer ≤ vec_capacity l.buffer;
}
