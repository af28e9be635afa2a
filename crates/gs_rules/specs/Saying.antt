-- What a peer says to a neighbour, as bytes, marks of the ends of rounds and a close; and what it has handled from one.
use Rattle.std.specs.Prelude.{◌≡◌, ℕ, Bool, true, false, if◌then◌else◌, List, [], ◌∷◌, ◌++◌, map, Option, Some, None, option_to_list}
use Rattle.std.specs.List.{flat_map, AllByRecursion}
use Rattle.gs_base.specs.declared.names.PeerNo.{PeerNo}
use Rattle.gs_base.specs.declared.rpc.Rpc.{Rpc}
use Rattle.gs_base.specs.Names.{same_peer}
use Rattle.gs_base.specs.Codecs.{Codec}
use Rattle.gs_wire.specs.Joining.{joined_rpc}
pub use Rattle.gs_base.specs.Tokens.{Token, Byte, EndOf, Close, Said, bytes_of}
use Rattle.gs_rules.specs.declared.event.Event.{Event}
use Rattle.gs_rules.specs.declared.event.Event.TheVariants.{Heard, Late, BeatBegin, Decay, RoundEnd, Shut, Part, Step, Own, Lost}
use Rattle.gs_rules.specs.Events.{of_act, of_round_end}
use Rattle.gs_plan.specs.declared.plan.Act.{Act}
use Rattle.gs_plan.specs.declared.plan.Act.TheVariants.{Raw, Subscribe, Unsubscribe, Publish, HangUp}
use Rattle.gs_rules.specs.declared.trace.Entry.{Entry}
use Rattle.gs_rules.specs.Tables.{Entries, cuts_off, up}
use Rattle.gs_rules.specs.Modes.{sent_to}

-- what an event puts after its sends: a round's end, or a close, for a lost neighbour or for all at a shutdown
abbrev pub sign : PeerNo → Event → Said
sign q event = of_round_end (λ r. EndOf r ∷ []) (if cuts_off q event then Close ∷ [] else []) event

abbrev pub raw_by : PeerNo → Act → List ℕ
raw_by q (Raw p bytes) = if same_peer p q then bytes else []
raw_by q (Subscribe t) = []
raw_by q (Unsubscribe t) = []
raw_by q (Publish t payload) = []
raw_by q (HangUp p) = []

-- the bytes that an event puts on q's link as they are
abbrev pub raw_to : PeerNo → Event → List ℕ
raw_to q event = of_act (raw_by q) [] event

-- these entries put only frames on q's link
abbrev pub SaysOnlyFrames : PeerNo → List Entry → Type 0
SaysOnlyFrames q entries = AllByRecursion (λ e. raw_to q e.event ≡ []) entries

-- ---- what goes to a neighbour

-- What goes to a neighbour: what is said to it so far, and the RPC that is gathered for it and is not yet out.
pub record Outgoing : Type 0 where
  pub said : Said
  pub gathered : Option Rpc

-- nothing yet
abbrev pub nothing_outgoing : Outgoing
nothing_outgoing = record { said = []; gathered = None }

-- the RPCs that go out when one more is sent, and the RPC that is gathered then. What is sent is joined to what is
-- gathered, if both fit one frame. Else what is gathered goes out, and what is sent is gathered instead.
abbrev pub gather : Codec → Option Rpc → Rpc → List Rpc × Option Rpc
gather codec None v = ([], Some v)
gather codec (Some u) v = if codec.fits (joined_rpc u v) then ([], Some (joined_rpc u v)) else (u ∷ [], Some v)

-- frames of these RPCs
abbrev pub frames_of : Codec → List Rpc → Said
frames_of codec rpcs = map Byte (flat_map codec.frame rpcs)

-- after one more RPC
abbrev pub sending : Codec → Outgoing → Rpc → Outgoing
sending codec o v = record {
  said = o.said ++ frames_of codec (gather codec o.gathered v).0;
  gathered = (gather codec o.gathered v).1;
}

-- after these RPCs, the first one first
abbrev pub sending_all : Codec → Outgoing → List Rpc → Outgoing
sending_all codec o [] = o
sending_all codec o (v ∷ vs) = sending_all codec (sending codec o v) vs

-- at a cut what is gathered goes out as one frame; if nothing is gathered, there is no frame
abbrev pub cut_out : Codec → Outgoing → Outgoing
cut_out codec o = record { said = o.said ++ frames_of codec (option_to_list o.gathered); gathered = None }

abbrev pub is_cut_by : PeerNo → Act → Bool
is_cut_by q (Raw p bytes) = same_peer p q
is_cut_by q (HangUp p) = same_peer p q
is_cut_by q (Subscribe t) = false
is_cut_by q (Unsubscribe t) = false
is_cut_by q (Publish t payload) = false

-- what an event cuts for q: the end of a round, bytes as they are for q, and whatever cuts q off
abbrev pub is_cut : PeerNo → Event → Bool
is_cut q event = of_round_end (λ r. true) (of_act (is_cut_by q) (cuts_off q event) event) event

-- more is said
abbrev pub saying : Outgoing → Said → Outgoing
saying o w = record { said = o.said ++ w; gathered = o.gathered }

-- after an event: a cut, and then bytes as they are and the event's sign
abbrev pub behind_event : Codec → PeerNo → Outgoing → Event → Outgoing
behind_event codec q o event =
    saying (if is_cut q event then cut_out codec o else o) (map Byte (raw_to q event) ++ sign q event)

-- after one more entry: its sends are gathered before its event
abbrev pub behind_entry : Codec → PeerNo → Outgoing → Entry → Outgoing
behind_entry codec q o e = behind_event codec q (sending_all codec o (sent_to q e.effects.sends)) e.event

-- what goes to q by a trace, for as long as q is up
abbrev pub outgoing : Codec → Entries → PeerNo → Outgoing
outgoing codec [] q = nothing_outgoing
outgoing codec (e ∷ L) q = if up L q then behind_entry codec q (outgoing codec L q) e else outgoing codec L q

-- what a trace says to q
abbrev pub out : Codec → Entries → PeerNo → Said
out codec L q = (outgoing codec L q).said

-- the RPC that a trace has gathered for q, and that is not yet out
abbrev pub gathered : Codec → Entries → PeerNo → Option Rpc
gathered codec L q = (outgoing codec L q).gathered

-- ---- what was sent and handled

-- the RPCs that a trace sends to q, for as long as q is up
abbrev pub sent : Entries → PeerNo → List Rpc
sent [] q = []
sent (e ∷ L) q = if up L q then sent L q ++ sent_to q e.effects.sends else sent L q

-- the RPC from q that an event handles
abbrev pub handled_by : PeerNo → Event → List Rpc
handled_by q (Heard p rpc) = if same_peer p q then rpc ∷ [] else []
handled_by q (Late p rpc) = if same_peer p q then rpc ∷ [] else []
handled_by q (Part p part) = []
handled_by q BeatBegin = []
handled_by q (Step step) = []
handled_by q (Own act) = []
handled_by q (Lost p loss) = []
handled_by q Decay = []
handled_by q (RoundEnd r) = []
handled_by q Shut = []

-- the RPCs from q that a trace has handled, in order
abbrev pub handled : Entries → PeerNo → List Rpc
handled [] q = []
handled (e ∷ L) q = handled L q ++ handled_by q e.event

-- each RPC that is sent fits a frame
abbrev pub SendsFit : Codec → List (PeerNo × Rpc) → Type 0
SendsFit codec sends = AllByRecursion (λ x. codec.fits x.1 ≡ true) sends

-- each RPC that these entries send fits a frame
abbrev pub AllFit : Codec → List Entry → Type 0
AllFit codec entries = AllByRecursion (λ e. SendsFit codec e.effects.sends) entries
