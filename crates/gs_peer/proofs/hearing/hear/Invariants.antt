use Rattle.std.proofs.Common.{◌≡◌, ◌++◌, [], map, take, drop}
use Rattle.gs_params.specs.Seeding.{seeded_after, seeded_word}
use Rattle.gs_rules.specs.Modes.{exact}
use Rattle.gs_peer.specs.Inboxes.{all_heard, in_next_phase}
use Rattle.gs_player.specs.Playing.{Runs}
use Rattle.gs_peer.proofs.hearing.hear.Given as goal

-- those so far are heard, and turned
abbrev pub invariant-loop-inbox : goal.invariant-loop-inbox
invariant-loop-inbox l = record {
  runs : Runs (exact seeded_word seeded_after) l.now (all_heard (take l.inbox-index l.fn.inboxes)) l.fn.router l.fn.words l.router l.words [];
  turns : l.inboxes ≡ map in_next_phase (take l.inbox-index l.fn.inboxes) ++ drop l.inbox-index l.fn.inboxes;
}
