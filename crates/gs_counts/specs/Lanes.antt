-- What goes out to a neighbour: frames of the RPCs that were gathered for it, and raw bytes.
use Rattle.std.specs.Prelude.{◌≡◌, ℕ, Bool, true, false, if◌then◌else◌, List, [], ◌∷◌, ◌++◌, filter, length, map, Option, None, option_to_list}
use Rattle.std.specs.List.{flat_map}
use Rattle.gs_base.specs.declared.names.PeerNo.{PeerNo}
use Rattle.gs_base.specs.declared.rpc.Rpc.{Rpc}
use Rattle.gs_base.specs.Names.{same_peer}
use Rattle.gs_wire.specs.Codec.{codec}
use Rattle.gs_wire.specs.Messages.{frame}
use Rattle.gs_plan.specs.declared.plan.Act.{Act}
use Rattle.gs_plan.specs.declared.plan.Act.TheVariants.{Subscribe, Unsubscribe, Publish, Raw, HangUp}
use Rattle.gs_rules.specs.declared.event.Event.{Event}
use Rattle.gs_rules.specs.declared.trace.Entry.{Entry}
use Rattle.gs_rules.specs.Events.{of_act}
use Rattle.gs_rules.specs.Modes.{sent_to}
use Rattle.gs_rules.specs.Saying.{gather, gathered, is_cut}
use Rattle.gs_rules.specs.Tables.{Entries, up, up_after}
use Rattle.gs_counts.specs.declared.happening.Happening.{Happening}
use Rattle.gs_counts.specs.declared.happening.Scene.{Scene}
use Rattle.gs_counts.specs.declared.kind.Kind.TheVariants as kinds
use Rattle.gs_counts.specs.declared.lane.Lane.{Lane}
use Rattle.gs_counts.specs.Happenings.{heard_of, on_none}

-- ---- frames

-- a frame of this many bytes
abbrev pub frame_happenings : Scene → ℕ → List Happening
frame_happenings s bytes = on_none s kinds.RpcsSent 1 ∷ on_none s kinds.BytesSent bytes ∷ []

-- frames of these RPCs
abbrev pub frames_out : Scene → List Rpc → List Happening
frames_out s vs = flat_map (λ v. frame_happenings s (length (frame v))) vs

-- the RPCs that go out as frames while these are sent after what is gathered, because the next one does not fit with them
abbrev pub let_out : Option Rpc → List Rpc → List Rpc
let_out held [] = []
let_out held (v ∷ vs) = (gather codec held v).0 ++ let_out (gather codec held v).1 vs

-- what is gathered then
abbrev pub held_after : Option Rpc → List Rpc → Option Rpc
held_after held [] = held
held_after held (v ∷ vs) = held_after (gather codec held v).1 vs

-- at a cut what is gathered goes out
abbrev pub cut_off : Bool → Option Rpc → List Rpc
cut_off is held = if is then option_to_list held else []

-- ---- raw bytes

abbrev pub raw_out : Scene → Bool → ℕ → List Happening
raw_out s true count = on_none s kinds.BytesSent count ∷ on_none s kinds.RawBytesSent count ∷ []
raw_out s false count = []

abbrev pub raw_by_act : Scene → PeerNo → Act → List Happening
raw_by_act s q (Raw p bytes) = raw_out s (same_peer p q) (length bytes)
raw_by_act s q (Subscribe t) = []
raw_by_act s q (Unsubscribe t) = []
raw_by_act s q (Publish t payload) = []
raw_by_act s q (HangUp p) = []

-- the raw bytes that an event puts on the link to a neighbour
abbrev pub raw_happenings : Scene → PeerNo → Event → List Happening
raw_happenings s q event = of_act (raw_by_act s q) [] event

-- ---- a lane

abbrev pub new_lane : PeerNo → Lane
new_lane q = record { to = q; gathered = None; is_open = true }

-- an entry with only the sends that fit a frame: others do not count, and no run sends them
abbrev pub fitting : Entry → Entry
fitting e = record e { effects = record e.effects { sends = filter (λ x. codec.fits x.1) e.effects.sends } }

abbrev pub fitting_to : PeerNo → List (PeerNo × Rpc) → List Rpc
fitting_to q sends = sent_to q (filter (λ x. codec.fits x.1) sends)

-- a lane after these RPCs were sent
abbrev pub lane_sent : Lane → List Rpc → Lane
lane_sent l vs = record l { gathered = held_after l.gathered vs }

-- a lane after a cut, if this is a cut
abbrev pub cut_lane : Bool → Lane → Lane
cut_lane true l = record l { gathered = None }
cut_lane false l = l

-- a lane after its end, if this is the end
abbrev pub closed_lane : Bool → Lane → Lane
closed_lane true l = record l { gathered = None; is_open = false }
closed_lane false l = l

-- what an event puts out, and what it leaves
abbrev pub end_happenings : Scene → Lane → Event → List Happening
end_happenings s l event =
    frames_out s (cut_off (is_cut l.to event) l.gathered) ++ raw_happenings s l.to event

abbrev pub lane_behind : Event → Lane → Lane
lane_behind event l = record {
  to = l.to;
  gathered = if is_cut l.to event then None else l.gathered;
  is_open = up_after l.to event l.is_open;
}

-- what an entry puts out to the neighbour while the link is open: what is sent, and then what its event puts out
abbrev pub put_out : Scene → Lane → Entry → List Happening
put_out s l e =
    frames_out s (let_out l.gathered (fitting_to l.to e.effects.sends))
    ++ end_happenings s (lane_sent l (fitting_to l.to e.effects.sends)) e.event

abbrev pub lane_happenings : Scene → Lane → Entry → List Happening
lane_happenings s l e = if l.is_open then put_out (heard_of s l.to) l e else []

abbrev pub lane_after : Entry → Lane → Lane
lane_after e l =
    if l.is_open then lane_behind e.event (lane_sent l (fitting_to l.to e.effects.sends)) else l

-- The entry puts out nothing to any neighbour.
pub record IsSilent (e : Entry) : Type 0 where
  pub sends : e.effects.sends ≡ []
  pub cuts : (q : PeerNo) → is_cut q e.event ≡ false
  pub stays : (q : PeerNo) (b : Bool) → up_after q e.event b ≡ b
  pub raw : (s : Scene) (q : PeerNo) → raw_happenings s q e.event ≡ []

-- ---- after a trace

-- the lane to a neighbour after a trace: what is gathered for it, and whether it is up
abbrev pub lane_of : Entries → PeerNo → Lane
lane_of L q = record { to = q; gathered = gathered codec (map fitting L) q; is_open = up (map fitting L) q }

-- what an entry after a trace puts out to these neighbours
abbrev pub links_happenings : List PeerNo → Scene → Entries → Entry → List Happening
links_happenings neighbours s L e = flat_map (λ q. lane_happenings s (lane_of L q) e) neighbours
