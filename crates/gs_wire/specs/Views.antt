-- Records without their places in memory.
use Rattle.gs_wire.specs.declared.record.Value.{Value as Stored}
use Rattle.gs_wire.specs.declared.record.Value.TheVariants as stored
use Rattle.gs_wire.specs.declared.record.Record.{Record as StoredRecord}
use Rattle.gs_wire.specs.Records.{Value, Varint, I64, Len, I32, Record}

abbrev pub view_value : Stored → Value
view_value (stored.Varint n) = Varint n
view_value (stored.I64 bytes) = I64 bytes
view_value (stored.Len bytes) = Len bytes
view_value (stored.I32 bytes) = I32 bytes

abbrev pub view : StoredRecord → Record
view r = record { field = r.field; value = view_value r.value }
