use Rattle.gs_direct.specs.Runs.{HavePlayed}
use Rattle.gs_direct.proofs.run.play_round.Given as goal

-- those so far have played the round
abbrev pub invariant-loop-number : goal.invariant-loop-number
invariant-loop-number g l = HavePlayed l.round l.now l.fn.peers l.fn.post.mail.items l.number l.peers l.post.mail.items l.post.next.items
