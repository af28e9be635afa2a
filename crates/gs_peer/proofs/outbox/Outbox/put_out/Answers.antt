use Rattle.std.proofs.Common.{sym, ◌∙◌}
use Rattle.gs_wire.specs.Codec.{codec}
use Rattle.gs_peer.proofs.Queues.{put_out}
use Rattle.gs_peer.proofs.outbox.Outbox.put_out.Goals as goal

pub returns-in_ok-push_back-in-Some-clause-told : goal.returns-in_ok-push_back-in-Some-clause-told
returns-in_ok-push_back-in-Some-clause-told c = put_out codec c.args.self.now.slots c.push_back.new.self c.args.self.now.gathered c.take_frame.new.self c.in-Some.frame (sym c.in-Some.is ∙ c.in_ok-frame.ensures.frame) c.in_ok-frame.ensures.taken c.in_ok-push_back-in-Some.ensures.ok
