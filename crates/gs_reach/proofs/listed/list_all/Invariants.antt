use Rattle.std.proofs.Common.{◌≡◌, take}
use Rattle.gs_reach.specs.Listed.{listed}
use Rattle.gs_reach.proofs.listed.list_all.Given as goal

-- what the peers so far say
abbrev pub invariant-loop-peer : goal.invariant-loop-peer
invariant-loop-peer l = record {
  published : l.all.published ≡ (listed (take l.peer-index l.peers)).published;
  delivered : l.all.delivered ≡ (listed (take l.peer-index l.peers)).delivered;
  changes : l.all.changes ≡ (listed (take l.peer-index l.peers)).changes;
  losses : l.all.losses ≡ (listed (take l.peer-index l.peers)).losses;
}
