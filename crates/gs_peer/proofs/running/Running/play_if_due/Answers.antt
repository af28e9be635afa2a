use Rattle.std.proofs.Common.{rules}
use Rattle.gs_peer.proofs.Fullness.{each_full}
use Rattle.gs_peer.proofs.running.Running.play_if_due.Goals as goal

pub play-requires-clause-full : goal.play-requires-clause-full
play-requires-clause-full g c = each_full c.args.self.now.player.inboxes.items (search rules)
