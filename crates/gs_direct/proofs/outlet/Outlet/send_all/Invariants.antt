use Rattle.std.proofs.Common.{take, drop}
use Rattle.gs_wire.specs.Codec.{codec}
use Rattle.gs_rules.specs.Modes.{sent_to}
use Rattle.gs_rules.specs.Saying.{Outgoing, sending_all}
use Rattle.gs_direct.specs.Outlets.{Follows, SendsWritten}
use Rattle.gs_direct.proofs.outlet.Outlet.send_all.Given as goal

-- those so far are sent
abbrev pub invariant-loop-to : goal.invariant-loop-to
invariant-loop-to l = record {
  written : SendsWritten (drop l.to-index l.sends);
  sent : Follows (λ (goes : Outgoing). sending_all codec goes (sent_to l.fn.self.to (take l.to-index l.sends))) l.fn.self l.self;
}
