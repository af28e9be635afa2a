use Rattle.gs_peer.proofs.Queues.{cut_says, parts}
use Rattle.gs_peer.proofs.outbox.Outbox.cut.Goals as goal

pub returns-clause-says : goal.returns-clause-says
returns-clause-says c = cut_says c.args.frame c.in_ok-piece.piece c.split_to.new.self c.args.self.now.slots c.push_rest.new.self (parts c.min.result c.args.frame c.in_ok-piece.piece c.split_to.new.self c.in_ok-piece.ensures.front c.in_ok-piece.ensures.rest) c.in_ok-push_rest.ensures.ok
