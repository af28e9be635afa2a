use Rattle.std.proofs.Common.{◌≡◌, ◌≤◌, take}
use Rattle.gs_reach.specs.Messages.{publishers}
use Rattle.gs_reach.proofs.messages.publishers.Given as goal

-- those so far are counted
abbrev pub invariant-loop-peer : goal.invariant-loop-peer
invariant-loop-peer l = record {
  counted : l.count ≡ publishers l.run.all.published l.message (take l.peer-index l.run.numbers.now);
  below : l.count ≤ l.peer-index;
}
