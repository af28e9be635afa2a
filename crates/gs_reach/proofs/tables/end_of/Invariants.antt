use Rattle.std.proofs.Common.{◌≡◌, take}
use Rattle.gs_reach.specs.Messages.{end_of}
use Rattle.gs_reach.proofs.tables.end_of.Given as goal

-- the first of those so far
abbrev pub invariant-loop-arrival : goal.invariant-loop-arrival
invariant-loop-arrival l = l.end ≡ end_of l.seen_ttl_ms l.from.0 (take l.arrival-index l.published)
