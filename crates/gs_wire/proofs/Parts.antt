-- What records say of a part of an RPC, and that they say one.
use Rattle.std.proofs.Common.{◌≡◌, ℕ, List, sym, ap, ◌∙◌}
use Rattle.gs_base.specs.declared.rpc.SubOpt.{SubOpt}
use Rattle.gs_base.specs.declared.rpc.Message.{Message}
use Rattle.gs_wire.specs.Records.{Record}
use Rattle.gs_wire.specs.Fields.{Spells, bool_of, topic_of, bytes_of}
use Rattle.gs_wire.proofs.RecordLists.{one_list}

abbrev pub sub_of : List Record → SubOpt
sub_of rs = record { subscribe = bool_of 1 rs; topic = topic_of 2 rs }

abbrev pub message_of : List Record → Message
message_of rs = record {
  origin = bytes_of 1 rs;
  payload = bytes_of 2 rs;
  seqno = bytes_of 3 rs;
  topic = topic_of 4 rs;
  signature = bytes_of 5 rs;
  key = bytes_of 6 rs;
}

-- a part that is what records say of it
pub one_said : {V : Type 0} (said : List Record → V) (bytes : List ℕ) (v w : V) → Spells (λ rs x. x ≡ said rs) bytes v → Spells (λ rs x. x ≡ said rs) bytes w → v ≡ w
one_said said bytes v w p q = p.2 ∙ ap said (one_list p.0 q.0 bytes p.1 q.1) ∙ sym q.2
