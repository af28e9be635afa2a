use Rattle.std.proofs.Common.{rules, Bool, List}
use Rattle.gs_base.specs.declared.names.PeerNo.{PeerNo}
use Rattle.gs_base.specs.declared.rpc.Rpc.{Rpc}
use Rattle.gs_wire.specs.declared.frames.End.TheVariants as ends
use Rattle.gs_wire.specs.Stream.{Holding}
use Rattle.gs_peer.specs.Inboxes.{InboxView}
use Rattle.gs_peer.proofs.Feeding.{fed, unfed}
use Rattle.gs_peer.proofs.inbox.Inbox.read.Goals as goal

abbrev seen : PeerNo → Holding → List Rpc → Bool → Bool → InboxView
seen peer reader stage is_marked is_closed = record { peer = peer; reader = reader; stage = stage; is_marked = is_marked; is_closed = is_closed }

pub returns-in-Ok-clause-fed : goal.returns-in-Ok-clause-fed
returns-in-Ok-clause-fed c =
    let x = seen c.self.inside.peer c.self.inside.reader c.self.inside.stage.items c.self.inside.is_marked c.self.inside.is_closed in
    rw (← c.self.view_is) (fed x c.feed.new.self c.feed.new.rpcs.items c.args.piece.now ends.Waits (search rules))

pub returns-in-Err-Failed-clause-fed : goal.returns-in-Err-Failed-clause-fed
returns-in-Err-Failed-clause-fed c =
    let x = seen c.self.inside.peer c.self.inside.reader c.self.inside.stage.items c.self.inside.is_marked c.self.inside.is_closed in
    rw (← c.self.view_is) (unfed x c.feed.new.self c.feed.new.rpcs.items c.args.piece.now (search rules) (search rules) (search rules))

pub returns-in-Err-Malformed-clause-fed : goal.returns-in-Err-Malformed-clause-fed
returns-in-Err-Malformed-clause-fed c =
    let x = seen c.self.inside.peer c.self.inside.reader c.self.inside.stage.items c.self.inside.is_marked c.self.inside.is_closed in
    rw (← c.self.view_is) (fed x c.feed.new.self c.feed.new.rpcs.items c.args.piece.now ends.Malformed (search rules))

pub returns-in-Err-TooLong-clause-fed : goal.returns-in-Err-TooLong-clause-fed
returns-in-Err-TooLong-clause-fed c =
    let x = seen c.self.inside.peer c.self.inside.reader c.self.inside.stage.items c.self.inside.is_marked c.self.inside.is_closed in
    rw (← c.self.view_is) (fed x c.feed.new.self c.feed.new.rpcs.items c.args.piece.now ends.TooLong (search rules))
