use Rattle.gs_link.specs.declared.item.Slot.TheVariants.{Close}
use Rattle.gs_peer.proofs.Queues.{moved}
use Rattle.gs_peer.proofs.outbox.Outbox.offer_close.Goals as goal

pub returns-in-Ok-clause-says : goal.returns-in-Ok-clause-says
returns-in-Ok-clause-says g c = moved (g.S.Ends.accepted c.args.ends.now c.args.to) (g.S.Ends.accepted c.finish.new.self c.args.to) c.args.self.now.slots Close c.in-Ok.ensures.accepted.1
