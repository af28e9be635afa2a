use Rattle.std.specs.Prelude.{◌≡◌, List, length}
use Rattle.gs_direct.specs.Observing.{HasSeen}
use Rattle.gs_direct.specs.Runs.{AreAt, IsRoomFor, trace_at}
use Rattle.gs_direct.specs.Stages.{AreStages, HasShownMore, delivered_to, saturated}
use Rattle.gs_direct.specs.declared.stages.Stage.{Stage}
use Rattle.gs_direct.proofs.run.play_all.Given as goal

-- the rounds before this one are played, the observer has seen them and asks the same, and the gauge has shown them
abbrev pub invariant-loop-round : goal.invariant-loop-round
invariant-loop-round g l = record {
  at : AreAt l.plan l.round l.peers l.post.mail.items;
  room : IsRoomFor l.plan l.post.next.items;
  saw : HasSeen (g.O.Observer.saw l.observer) (trace_at l.peers);
  question : g.O.Observer.question l.observer ≡ g.O.Observer.question l.fn.observer;
  count : l.deliveries ≡ saturated (delivered_to (length l.plan.peers) (trace_at l.peers));
  stages : List Stage;
  shows : HasShownMore g.G.Gauge.has_shown l.fn.gauge l.gauge stages;
  are : AreStages l.plan (trace_at l.peers) l.round stages;
}
