use Rattle.std.proofs.Common.{drop}
use Rattle.std.specs.List.{All}
use Rattle.gs_link.specs.Items.{IsSendable}
use Rattle.gs_run_tests.proofs.tests.peer.made.are_sendable.Given as goal

-- where the rest may be sent, all may
abbrev pub invariant-loop-item : goal.invariant-loop-item
invariant-loop-item l = All IsSendable (drop l.item-index l.items) → All IsSendable l.items
