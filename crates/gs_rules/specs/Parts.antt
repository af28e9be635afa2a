-- The parts of an RPC as events: in which order they come, and what each kind of part is. A kind of control message has a
-- line in each of these, and its rule in Rules.antt.
use Rattle.std.specs.Prelude.{◌≡◌, true, List, [], ◌++◌, map, Option, Some, None}
use Rattle.gs_base.specs.declared.names.PeerNo.{PeerNo}
use Rattle.gs_base.specs.declared.rpc.Message.{Message}
use Rattle.gs_base.specs.declared.rpc.Rpc.{Rpc}
use Rattle.gs_base.specs.declared.rpc.SubOpt.{SubOpt}
use Rattle.gs_base.specs.Rpcs.{grafts_in, offers_in, prunes_in, requests_in}
use Rattle.gs_rules.specs.declared.event.Event.{Event}
use Rattle.gs_rules.specs.declared.event.Event.TheVariants.{Part}
use Rattle.gs_rules.specs.declared.event.RpcPart.{RpcPart}
use Rattle.gs_rules.specs.declared.event.RpcPart.TheVariants.{Sub, Msg, Have, Want, GraftIn, PruneIn}
use Rattle.gs_rules.specs.Peers.{Peer, is_neighbour}

-- ---- their order

-- parts of one kind, each as an event
abbrev pub events_of : {P : Type 0} → (P → RpcPart) → PeerNo → List P → List Event
events_of as_part q parts = map (λ part. Part q (as_part part)) parts

-- what comes after the parts of each kind
abbrev pub after_prunes : PeerNo → Rpc → List Event
after_prunes q rpc = []

abbrev pub after_grafts : PeerNo → Rpc → List Event
after_grafts q rpc = events_of PruneIn q (prunes_in rpc.control) ++ after_prunes q rpc

abbrev pub after_requests : PeerNo → Rpc → List Event
after_requests q rpc = events_of GraftIn q (grafts_in rpc.control) ++ after_grafts q rpc

abbrev pub after_offers : PeerNo → Rpc → List Event
after_offers q rpc = events_of Want q (requests_in rpc.control) ++ after_requests q rpc

abbrev pub after_messages : PeerNo → Rpc → List Event
after_messages q rpc = events_of Have q (offers_in rpc.control) ++ after_offers q rpc

abbrev pub after_subs : PeerNo → Rpc → List Event
after_subs q rpc = events_of Msg q rpc.publish ++ after_messages q rpc

-- the parts of an RPC: its subscriptions, messages, offers, requests, grafts and prunes, each as they stand in it
abbrev pub parts : PeerNo → Rpc → List Event
parts q rpc = events_of Sub q rpc.subs ++ after_subs q rpc

-- ---- what a part is

-- the change of a subscription, if the part is one
abbrev pub subscription_in : RpcPart → Option SubOpt
subscription_in (Sub sub) = Some sub
subscription_in (Msg m) = None
subscription_in (Have offer) = None
subscription_in (Want request) = None
subscription_in (GraftIn graft) = None
subscription_in (PruneIn prune) = None

-- the message, if the part is one
abbrev pub brought_by : RpcPart → Option Message
brought_by (Sub sub) = None
brought_by (Msg m) = Some m
brought_by (Have offer) = None
brought_by (Want request) = None
brought_by (GraftIn graft) = None
brought_by (PruneIn prune) = None

-- a message or a GRAFT is from a neighbour; other parts may be from anyone, since each of their marks counts anyway
abbrev pub IsPartFromNeighbour : Peer → PeerNo → RpcPart → Type 0
IsPartFromNeighbour p q (Msg m) = is_neighbour p q ≡ true
IsPartFromNeighbour p q (GraftIn graft) = is_neighbour p q ≡ true
IsPartFromNeighbour p q (Sub sub) = Unit {0}
IsPartFromNeighbour p q (Have offer) = Unit {0}
IsPartFromNeighbour p q (Want request) = Unit {0}
IsPartFromNeighbour p q (PruneIn prune) = Unit {0}
