-- RPCs that are gathered, so that they go out as one.
use Rattle.std.specs.Prelude.{◌≡◌, ℕ, ◌≤◌, length, Option, unwrap_or}
use Rattle.gs_base.specs.declared.rpc.Rpc.{Rpc}
use Rattle.gs_base.specs.Rpcs.{empty_rpc}
use Rattle.gs_wire.specs.Messages.{body, longest_body}
use Rattle.gs_wire.specs.Sections.{control_length, plain_length}

-- everything that was gathered as one RPC, which says nothing where nothing was gathered
abbrev pub as_one : Option Rpc → Rpc
as_one held = unwrap_or held empty_rpc

-- The lengths are those of the RPC, which fits a frame.
pub record IsMeasured (v : Rpc) (plain : ℕ) (control : Option ℕ) : Type 0 where
  pub outside : plain ≡ plain_length v
  pub inside : control ≡ control_length v
  pub fits : length (body v) ≤ longest_body
