use Rattle.std.proofs.Common.{◌≡◌, ◌≤◌, ◌++◌, take, vec_capacity}
use Rattle.gs_wire.specs.Records.{records_text}
use Rattle.gs_wire.specs.Fields.{repeated_records}
use Rattle.gs_wire.proofs.encoding.put_repeated.Given as goal

-- the values so far were written
abbrev pub invariant-loop-bytes : goal.invariant-loop-bytes
invariant-loop-bytes l = record {
  written : l.buffer.items ≡ l.initial.buffer.items ++ records_text (repeated_records l.field (take l.bytes-index l.values));
  capacity : vec_capacity l.initial.buffer ≤ vec_capacity l.buffer;
}
