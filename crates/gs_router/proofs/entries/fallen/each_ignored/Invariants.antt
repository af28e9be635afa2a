use Rattle.std.proofs.Common.{◌≡◌, map, take}
use Rattle.gs_base.specs.declared.names.MsgId.{MsgId}
use Rattle.gs_rules.specs.declared.fallen.Fallen.TheVariants as fallen
use Rattle.gs_rules.specs.declared.fallen.NoAnswer.TheVariants.{Ignored}
use Rattle.gs_router.proofs.entries.fallen.each_ignored.Given as goal

abbrev pub invariant-loop-id : goal.invariant-loop-id
invariant-loop-id l = l.list.items ≡ map (λ (id : MsgId). fallen.Request l.from id Ignored) (take l.id-index l.ids)
