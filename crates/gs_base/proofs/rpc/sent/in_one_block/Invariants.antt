use Rattle.std.proofs.Common.{◌≡◌, ◌++◌, drop, map}
use Rattle.std.specs.List.{flat_map}
use Rattle.gs_base.specs.declared.names.MsgId.{MsgId}
use Rattle.gs_base.proofs.rpc.sent.in_one_block.Given as goal

abbrev pub invariant-loop-id : goal.invariant-loop-id
invariant-loop-id l = record {
  rest : l.rest ≡ flat_map (λ (id : MsgId). id.0) (drop l.id-index l.ids);
  list : l.list.items ++ map (λ (id : MsgId). id.0) (drop l.id-index l.ids) ≡ map (λ (id : MsgId). id.0) l.ids;
}
