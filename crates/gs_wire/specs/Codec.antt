-- What the definitions of traces need from the codec.
use Rattle.std.specs.Prelude.{length, nat_le}
use Rattle.gs_base.specs.Codecs.{Codec}
use Rattle.gs_wire.specs.Messages.{longest_body, body, frame}

-- the frame of an RPC; an RPC fits one where its body is within the limit
abbrev pub codec : Codec
codec = record { frame = frame; fits = λ rpc. nat_le (length (body rpc)) longest_body }
