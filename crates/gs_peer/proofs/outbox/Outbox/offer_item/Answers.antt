use Rattle.gs_link.specs.Items.{slot_of}
use Rattle.gs_peer.proofs.Queues.{moved}
use Rattle.gs_peer.proofs.outbox.Outbox.offer_item.Goals as goal

pub returns-in-Ok-clause-says : goal.returns-in-Ok-clause-says
returns-in-Ok-clause-says g c = moved (g.S.Ends.accepted c.args.ends.now c.args.to) (g.S.Ends.accepted c.put.new.self c.args.to) c.args.self.now.slots (slot_of c.args.item) c.in-Ok.ensures.accepted.1
