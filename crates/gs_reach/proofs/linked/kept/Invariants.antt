use Rattle.std.specs.Prelude.{not}
use Rattle.std.proofs.Common.{◌≡◌, take}
use Rattle.gs_base.specs.declared.names.Millis.{Millis}
use Rattle.gs_reach.specs.Messages.{had_lost}
use Rattle.gs_reach.specs.Tables.{is_linked_at}
use Rattle.gs_reach.proofs.linked.kept.Given as goal

-- as the losses so far say
abbrev pub invariant-loop-loss : goal.invariant-loop-loss
invariant-loop-loss l = (at : Millis) →
    not (is_linked_at l.kept at.0) ≡ had_lost (take l.loss-index l.losses) at l.peer l.neighbour
