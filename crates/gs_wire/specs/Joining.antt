-- RPCs that are joined into one.
use Rattle.std.specs.Prelude.{◌++◌, List, [], ◌∷◌, Option, Some, None}
use Rattle.gs_base.specs.declared.control.Control.{Control}
use Rattle.gs_base.specs.declared.rpc.Rpc.{Rpc}
use Rattle.gs_wire.specs.Controls.{joined_control}

-- the control messages of both; they are absent where neither has any
abbrev pub joined_controls : Option Control → Option Control → Option Control
joined_controls None d = d
joined_controls (Some c) None = Some c
joined_controls (Some c) (Some d) = Some (joined_control c d)

-- one RPC that says what both say; in each list, the elements of the first come first
abbrev pub joined_rpc : Rpc → Rpc → Rpc
joined_rpc u v = record {
  subs = u.subs ++ v.subs;
  publish = u.publish ++ v.publish;
  control = joined_controls u.control v.control;
}

-- the held RPC joined with one more
abbrev pub joined_to : Option Rpc → Rpc → Rpc
joined_to None v = v
joined_to (Some u) v = joined_rpc u v

-- both RPCs joined, where there are both; otherwise the one that is there
abbrev pub joined_options : Option Rpc → Option Rpc → Option Rpc
joined_options held None = held
joined_options held (Some v) = Some (joined_to held v)

-- the held RPC joined with all of these
abbrev pub joined_onto : Option Rpc → List Rpc → Option Rpc
joined_onto held [] = held
joined_onto held (v ∷ vs) = joined_onto (Some (joined_to held v)) vs

-- one RPC that says what all of them say, in order, or none where there are none
abbrev pub joined_rpcs : List Rpc → Option Rpc
joined_rpcs vs = joined_onto None vs
