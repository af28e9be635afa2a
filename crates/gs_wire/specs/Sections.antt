-- The sections of a body, and where they stand in a frame. A section is the records of one field. The field is one of an RPC
-- or of its control messages.
use Rattle.std.specs.Prelude.{◌≡◌, ℕ, ◌+◌, ◌≤◌, List, ◌++◌, length, Option, min, option_map, option_to_list, unwrap_or}
use Rattle.gs_base.specs.declared.control.Control.{Control}
use Rattle.gs_base.specs.declared.rpc.Rpc.{Rpc}
use Rattle.gs_wire.specs.declared.sections.Place.{Place}
use Rattle.gs_wire.specs.declared.sections.Places.{Places}
use Rattle.gs_wire.specs.declared.sections.ControlPlaces.{ControlPlaces}
use Rattle.gs_wire.specs.declared.sections.Section.{Section}
use Rattle.gs_wire.specs.declared.sections.Section.TheVariants.{Subscriptions, Messages, Offers, Requests, Grafts, Prunes}
use Rattle.gs_wire.specs.Records.{records_text}
use Rattle.gs_wire.specs.Fields.{part_records}
use Rattle.gs_wire.specs.Controls.{control_records, graft_records, ihave_records, iwant_records, no_control, prune_records}
use Rattle.gs_wire.specs.Messages.{body, frame, longest_body, message_records, sub_records}

-- ---- what is written

-- the control messages of an RPC; they are empty where they are absent
abbrev pub control_of : Rpc → Control
control_of v = unwrap_or v.control no_control

-- what is written for a section
abbrev pub section : Section → Rpc → List ℕ
section Subscriptions v = records_text (part_records sub_records 1 v.subs)
section Messages v = records_text (part_records message_records 2 v.publish)
section Offers v = records_text (part_records ihave_records 1 (control_of v).ihave)
section Requests v = records_text (part_records iwant_records 2 (control_of v).iwant)
section Grafts v = records_text (part_records graft_records 3 (control_of v).graft)
section Prunes v = records_text (part_records prune_records 4 (control_of v).prune)

-- the length of everything that an RPC says outside of its control messages
abbrev pub plain_length : Rpc → ℕ
plain_length v = length (section Subscriptions v ++ section Messages v)

-- the length of its control messages, where it has some
abbrev pub control_length : Rpc → Option ℕ
control_length v = option_map (λ c. length (records_text (control_records c))) v.control

-- the length of control messages, where there are some, and this number where that is smaller
abbrev pub control_length_within : ℕ → Option Control → Option ℕ
control_length_within most o = option_map (λ c. min most (length (records_text (control_records c)))) o

-- what is written for control messages, with their field and their length, where there are some
abbrev pub control_part : Option Control → List ℕ
control_part o = records_text (part_records control_records 3 (option_to_list o))

-- ---- where it stands

-- The bytes stand in the text, from this place's start to its end.
pub record StandsAt (text : List ℕ) (place : Place) (bytes : List ℕ) : Type 0 where
  pub before : List ℕ
  pub behind : List ℕ
  pub parts : text ≡ before ++ (bytes ++ behind)
  pub start : place.start ≡ length before
  pub end : place.end ≡ length before + length bytes

-- The bytes stand from the start of one place to the end of another.
abbrev pub StandsFrom : List ℕ → Place → Place → List ℕ → Type 0
StandsFrom text first last bytes = StandsAt text (record { start = first.start; end = last.end }) bytes

-- The records of each field of the control messages stand in the text at their place.
pub record ControlStands (text : List ℕ) (places : ControlPlaces) (c : Control) : Type 0 where
  pub offers : StandsAt text places.offers (records_text (part_records ihave_records 1 c.ihave))
  pub requests : StandsAt text places.requests (records_text (part_records iwant_records 2 c.iwant))
  pub grafts : StandsAt text places.grafts (records_text (part_records graft_records 3 c.graft))
  pub prunes : StandsAt text places.prunes (records_text (part_records prune_records 4 c.prune))
  pub all : StandsFrom text places.offers places.prunes (records_text (control_records c))

-- Each section of the RPC stands in the text at its place.
pub record SectionsStand (text : List ℕ) (places : Places) (v : Rpc) : Type 0 where
  pub subscriptions : StandsAt text places.subscriptions (section Subscriptions v)
  pub messages : StandsAt text places.messages (section Messages v)
  pub plain : StandsFrom text places.subscriptions places.messages (section Subscriptions v ++ section Messages v)
  pub control : ControlStands text places.control (control_of v)

-- where a section stands
abbrev pub place_of : Section → Places → Place
place_of Subscriptions places = places.subscriptions
place_of Messages places = places.messages
place_of Offers places = places.control.offers
place_of Requests places = places.control.requests
place_of Grafts places = places.control.grafts
place_of Prunes places = places.control.prunes

-- The text is the frame of an RPC that fits one, with its sections at these places.
pub record IsWritten (v : Rpc) (text : List ℕ) (places : Places) : Type 0 where
  pub written : text ≡ frame v
  pub fits : length (body v) ≤ longest_body
  pub stand : SectionsStand text places v
