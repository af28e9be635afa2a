use Rattle.std.proofs.Common.{◌≡◌, take}
use Rattle.std.specs.List.{All}
use Rattle.gs_ends.specs.Lists.{BringsSendable, senders_of}
use Rattle.gs_run_tests.proofs.tests.peer.crowds.inbound.Given as goal

abbrev pub invariant-loop-number : goal.invariant-loop-number
invariant-loop-number l = record {
  senders : senders_of l.inbound.items ≡ take l.number-index l.numbers;
  size : All BringsSendable l.inbound.items;
}
