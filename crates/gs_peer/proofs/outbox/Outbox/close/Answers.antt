use Rattle.std.proofs.Common.{[], ◌∷◌, refl}
use Rattle.gs_base.specs.Tokens.{Close as Closing}
use Rattle.gs_link.specs.declared.item.Slot.TheVariants.{Close}
use Rattle.gs_wire.specs.Codec.{codec}
use Rattle.gs_peer.specs.Outboxes.{outgoing_of}
use Rattle.gs_peer.proofs.Queues.{put_at_back}
use Rattle.gs_peer.proofs.outbox.Outbox.close.Goals as goal

pub returns-clause-told : goal.returns-clause-told
returns-clause-told c = put_at_back codec c.args.self.now.is_open (outgoing_of c.args.self.now) c.put_out.new.self.slots c.push_back.new.self c.put_out.new.self.gathered Close (Closing ∷ []) c.if-not-self.false refl c.in_ok-put_out.ensures.told c.in_ok-push_back.ensures.ok
