-- RPCs and their parts as lists of records (libp2p pubsub, "The RPC": `rpc.proto`).
-- The numbers are those of the fields there.
use Rattle.std.specs.Prelude.{◌≡◌, ℕ, ◌<◌, ◌^◌, List, ◌++◌, length, IfSome, option_to_list}
use Rattle.std.specs.List.{AllZip, AllByRecursion}
use Rattle.gs_base.specs.declared.control.Prune.{Prune}
use Rattle.gs_base.specs.declared.control.Control.{Control}
use Rattle.gs_base.specs.declared.rpc.SubOpt.{SubOpt}
use Rattle.gs_base.specs.declared.rpc.Message.{Message}
use Rattle.gs_base.specs.declared.rpc.Rpc.{Rpc}
use Rattle.gs_wire.specs.Varint.{varint}
use Rattle.gs_wire.specs.Records.{Record, len_values, records_text}
use Rattle.gs_wire.specs.Fields.{Spells, bytes_of, topic_of, bool_of, topic_bytes, bool_records, bytes_records, part_records}
use Rattle.gs_wire.specs.Controls.{SaysMerged, control_records}

-- ---- what records say

abbrev pub SaysSub : List Record → SubOpt → Type 0
SaysSub rs v = v ≡ record { subscribe = bool_of 1 rs; topic = topic_of 2 rs }

abbrev pub SaysMessage : List Record → Message → Type 0
SaysMessage rs v = v ≡ record {
  origin = bytes_of 1 rs;
  payload = bytes_of 2 rs;
  seqno = bytes_of 3 rs;
  topic = topic_of 4 rs;
  signature = bytes_of 5 rs;
  key = bytes_of 6 rs;
}

-- Each value of a repeated field spells one part, in order; the values of control are merged.
pub record SaysRpc (rs : List Record) (v : Rpc) : Type 0 where
  pub subs : AllZip (Spells SaysSub) (len_values 1 rs) v.subs
  pub publish : AllZip (Spells SaysMessage) (len_values 2 rs) v.publish
  pub control : SaysMerged (len_values 3 rs) v.control

-- The bytes spell the RPC.
abbrev pub SpellsRpc : List ℕ → Rpc → Type 0
SpellsRpc bytes v = Spells SaysRpc bytes v

-- ---- the records of a value: fields ascending, repeated ones in order, and nothing for what is absent

abbrev pub sub_records : SubOpt → List Record
sub_records v = bool_records 1 v.subscribe ++ bytes_records 2 (topic_bytes v.topic)

abbrev pub message_records : Message → List Record
message_records v =
    bytes_records 1 v.origin
    ++ bytes_records 2 v.payload
    ++ bytes_records 3 v.seqno
    ++ bytes_records 4 (topic_bytes v.topic)
    ++ bytes_records 5 v.signature
    ++ bytes_records 6 v.key

abbrev pub rpc_records : Rpc → List Record
rpc_records v =
    part_records sub_records 1 v.subs
    ++ part_records message_records 2 v.publish
    ++ part_records control_records 3 (option_to_list v.control)

-- the body that is written for an RPC
abbrev pub body : Rpc → List ℕ
body v = records_text (rpc_records v)

-- the longest body, in bytes, that is written or that a reader may take
abbrev pub longest_body : ℕ
longest_body = 1048576

-- the frame that is written for an RPC: the length of its body, and the body
abbrev pub frame : Rpc → List ℕ
frame v = varint (length (body v)) ++ body v

-- ---- the values that a program holds

-- The backoff is a number of 64 bits.
abbrev pub IsPrune : Prune → Type 0
IsPrune v = IfSome v.backoff (λ n. n < 2 ^ 64)

abbrev pub IsControl : Control → Type 0
IsControl v = AllByRecursion IsPrune v.prune

-- The body fits in memory, and each backoff is a number of 64 bits.
pub record IsInMemory (v : Rpc) : Type 0 where
  pub body : length (body v) < 2 ^ 64
  pub control : IfSome v.control IsControl
