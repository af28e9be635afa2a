-- A peer's task may go to another thread where its gate and its ends may.
use denote.RattleType.{RattleType}
use denote.Param.Send.{IsSend, recorded_send, sendable, struct_send, view_send}
use denote.Struct.Declared.{shape}
use Rattle.std.proofs.Crossing.{crosses}
use Rattle.gs_cache.proofs.payloads.Payloads.TheSendSync as Payloads
use Rattle.gs_plan.proofs.plan.Line.TheSendSync as Line
use Rattle.gs_peer.proofs.outboxes.Outboxes.TheSendSync as Outboxes
use Rattle.gs_peer.proofs.phase.Phase.TheSendSync as Phase
use Rattle.gs_peer.proofs.inbox.Inbox.TheSendSync as Inbox
use Rattle.gs_peer.specs.contracts.player.Player as Player
use Rattle.gs_player.specs.contracts.agenda.Agenda as Agenda
use Rattle.gs_player.specs.contracts.agenda.Agenda.TheInside as AgendaFields
use Rattle.gs_peer.specs.contracts.assignment.Assignment as Assignment
use Rattle.gs_peer.specs.contracts.running.Running as Running
use Rattle.gs_peer.specs.contracts.task.PeerTask as PeerTask
use Rattle.gs_router.proofs.known.Known.TheSendSync as Known
use Rattle.gs_router.specs.contracts.log.Log as Log
use Rattle.gs_router.specs.contracts.log.Log.TheInside as LogFields
use Rattle.gs_router.specs.contracts.log.WholeTrace as WholeTrace
use Rattle.gs_rules.proofs.stored.StoredEntry.TheSendSync as StoredEntry
use Rattle.gs_router.specs.contracts.router.Router as Router
use Rattle.gs_router.specs.contracts.router.Router.TheInside as RouterFields
use Rattle.gs_router.specs.contracts.state.State as State
use Rattle.gs_workers.proofs.stop_flag.StopFlag.TheSendSync as StopFlag

agenda_fields : IsSend AgendaFields.the_row
agenda_fields = search (sendable, crosses, Line.the_send) depth 40

agenda : IsSend Agenda.the_row
agenda = view_send _ _ _ _ _ agenda_fields

log_fields : (d : _) → IsSend (LogFields.the_row WholeTrace.the_row d)
log_fields d = search (sendable, crosses, StoredEntry.the_send) depth 40

log : (d : _) → IsSend (Log.the_row WholeTrace.the_row d)
log d = view_send _ _ _ _ _ (log_fields d)

state : (d : _) → IsSend (State.the_field WholeTrace.the_row d).row
state d = struct_send (shape (State.the_type WholeTrace.the_row d)) (Known.the_field_send, (log d, tt))

router_fields : (d : _) → IsSend (RouterFields.the_row WholeTrace.the_row d)
router_fields d =
    let K : RattleType = WholeTrace.the_row in
    recorded_send (RouterFields.the_field K d).row _ _ (RouterFields.the_type K d).to_one (struct_send (shape (RouterFields.the_type K d)) (state d, (Payloads.the_send, (search sendable, tt))))

router : (d : _) → IsSend (Router.the_row WholeTrace.the_row d)
router d = view_send _ _ _ _ _ (router_fields d)

player : IsSend (Player.the_field).row
player =
    struct_send (shape Player.the_type) (router _, (search (sendable, crosses) depth 40, (search (sendable, crosses) depth 40, (search (sendable, crosses, Inbox.the_send) depth 40, tt))))

assignment : IsSend (Assignment.the_field).row
assignment = search (sendable, crosses, agenda) depth 40

module _ (G S : RattleType) where
  running : IsSend G → IsSend S → IsSend (Running.the_row G S)
  running gate ends =
      recorded_send (Running.the_field G S).row _ _ (Running.the_type G S).to_one
      (struct_send (shape (Running.the_type G S)) (
        search (sendable, crosses) depth 8,
        (
          assignment,
          (gate, (player, (search (sendable, crosses) depth 8, (Phase.the_field_send, (Outboxes.the_field_send, (search sendable, (search sendable, (ends, tt)))))))),
        ),
      ))

  pub task : IsSend G → IsSend S → IsSend (PeerTask.the_row G S)
  task gate ends = let inside = running gate ends in search (sendable, crosses, StopFlag.the_send, StopFlag.the_sync, Payloads.the_send) depth 40
