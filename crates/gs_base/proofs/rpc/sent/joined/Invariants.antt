use Rattle.std.proofs.Common.{◌≡◌, ◌++◌, drop}
use Rattle.std.specs.List.{flat_map}
use Rattle.gs_base.specs.declared.names.MsgId.{MsgId}
use Rattle.gs_base.proofs.rpc.sent.joined.Given as goal

abbrev pub invariant-loop-id : goal.invariant-loop-id
invariant-loop-id l = l.block.items ++ flat_map (λ (id : MsgId). id.0) (drop l.id-index l.ids) ≡ flat_map (λ (id : MsgId). id.0) l.ids
