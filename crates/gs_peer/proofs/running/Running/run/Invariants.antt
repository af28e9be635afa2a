use Rattle.gs_ends.specs.Ends.{GrewBy}
use Rattle.gs_peer.specs.Running.{Goes}
use Rattle.gs_peer.specs.Stepping.{Steps}
use Rattle.gs_peer.proofs.running.Running.run.Given as goal

-- the steps so far
abbrev pub invariant-loop : goal.invariant-loop
invariant-loop g l = record {
  goes : Goes g.S.Ends l.fn.self l.self;
  taken : GrewBy l.counter (g.S.Ends.taken l.fn.self.ends) (g.S.Ends.taken l.self.ends);
  accepted : GrewBy l.counter (g.S.Ends.accepted l.fn.self.ends) (g.S.Ends.accepted l.self.ends);
  steps : Steps g.S.Ends l.counter l.idle l.fn.self l.self;
}
