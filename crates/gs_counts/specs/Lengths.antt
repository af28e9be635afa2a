-- How long RPCs are as bytes.
use Rattle.std.specs.Prelude.{ℕ, if◌then◌else◌, length, Option, None, Some}
use Rattle.gs_base.specs.declared.rpc.Rpc.{Rpc}
use Rattle.gs_wire.specs.Codec.{codec}
use Rattle.gs_wire.specs.Messages.{body}

-- the length of the body of an RPC, if that fits a frame
abbrev pub body_length : Rpc → Option ℕ
body_length rpc = if codec.fits rpc then Some (length (body rpc)) else None
