use Rattle.std.specs.Prelude.{ℕ, Bool, List}
use Rattle.gs_base.specs.declared.rpc.Rpc.{Rpc}

-- How a codec writes RPCs: the frame of each RPC, and whether the RPC fits a frame.
pub record Codec : Type 0 where
  pub frame : Rpc → List ℕ
  pub fits : Rpc → Bool
