-- What is listed of an entry is what happens at it.
use Rattle.std.proofs.Common.{◌≡◌, ℕ, ◌+◌, ◌<◌, get_or, length, take, Bool, not, if◌then◌else◌, List, [], ◌∷◌, ◌++◌, map, refl, sym, ap, ap₂, ◌∙◌, append_assoc}
use Rattle.std.specs.Prelude.{unwrap_or}
use Rattle.std.specs.List.{flat_map, list_any}
use Rattle.std.proofs.lemmas.List.{map-append, take_more}
use Rattle.gs_base.specs.declared.names.PeerNo.{PeerNo}
use Rattle.gs_base.specs.declared.names.Topic.{Topic}
use Rattle.gs_base.specs.declared.mark.Mark.{Mark}
use Rattle.gs_base.specs.declared.rpc.Message.{Message}
use Rattle.gs_base.specs.Names.{is_signed, message_id, payload_of, peers_of, same_topic, topic_of}
use Rattle.gs_plan.specs.declared.plan.Plan.{Plan}
use Rattle.gs_rules.specs.declared.event.Event.{Event}
use Rattle.gs_rules.specs.declared.event.Event.TheVariants.{Heard, Late, Part, BeatBegin, Step, Own, Lost, Decay, RoundEnd, Shut}
use Rattle.gs_rules.specs.declared.event.RpcPart.TheVariants.{Sub, Msg, Have, Want, GraftIn, PruneIn}
use Rattle.gs_rules.specs.declared.fallen.Fallen.{Fallen}
use Rattle.gs_rules.specs.declared.trace.Entry.{Entry}
use Rattle.gs_rules.specs.Events.{of_round_end}
use Rattle.gs_rules.specs.FellAway.{fell_away}
use Rattle.gs_rules.specs.Tables.{Entries}
use Rattle.gs_seats.specs.Rounds.{neighbour_in, neighbours, peer_in}
use Rattle.gs_counts.specs.declared.fate.Fate.{Fate}
use Rattle.gs_counts.specs.declared.fate.Fate.TheVariants as fates
use Rattle.gs_counts.specs.declared.happening.Happening.{Happening}
use Rattle.gs_counts.specs.declared.happening.Scene.{Scene}
use Rattle.gs_counts.specs.declared.lane.Lane.{Lane}
use Rattle.gs_counts.specs.declared.memory.Memory.{Memory}
use Rattle.gs_counts.specs.declared.traces.Notes.{Notes}
use Rattle.gs_counts.specs.Changes.{delivery_happenings, mark_happenings}
use Rattle.gs_counts.specs.Fates.{again, fate_after, known_fate, shown}
use Rattle.gs_counts.specs.Happenings.{heard_of, of_peer}
use Rattle.gs_counts.specs.Heard.{event_happenings, fallen_happenings, message_happenings}
use Rattle.gs_counts.specs.Lanes.{lane_after, lane_happenings, lane_of, links_happenings, new_lane}
use Rattle.gs_counts.specs.Memories.{Remembers}
use Rattle.gs_counts.specs.Reading.{IsNoted}
use Rattle.gs_counts.specs.Runs.{done_happenings, entry_happenings, entry_sizes, known_sizes, sizes_of}
use Rattle.gs_counts.specs.Sent.{is_answer, send_happenings}
use Rattle.gs_counts.specs.Standing.{MeshSize}
use Rattle.gs_counts.proofs.Joining.{subscribed_are_joined}
use Rattle.gs_counts.proofs.Lanes.{lane_goes_on}

-- ---- what becomes of messages

known_is : (memory : Memory) (L : Entries) → Remembers memory L → (m : Message) (marks : List Mark) → known_fate memory m marks ≡ fate_after L m marks
known_is memory L known m marks =
    ap₂ (λ (is_joined was : Bool). if not is_joined then fates.OffTopic else if is_signed m then fates.Signed else unwrap_or (shown marks) (again was))
    (ap (list_any (same_topic (topic_of m))) known.topics ∙ subscribed_are_joined (topic_of m) L)
    (known.ignored (message_id (payload_of m)))

module _ (f g : Message → List Mark → Fate) (same : (m : Message) (marks : List Mark) → f m marks ≡ g m marks) where
  same_event : (s : Scene) (fallen : List Fallen) (event : Event) (marks : List Mark) → event_happenings f s fallen event marks ≡ event_happenings g s fallen event marks
  same_event s fallen (Part q (Msg m)) marks = ap (λ (fate : Fate). message_happenings (heard_of s q) m fate) (same m marks)
  same_event s fallen (Part q (Sub sub)) marks = refl
  same_event s fallen (Part q (Have offer)) marks = refl
  same_event s fallen (Part q (Want request)) marks = refl
  same_event s fallen (Part q (GraftIn graft)) marks = refl
  same_event s fallen (Part q (PruneIn prune)) marks = refl
  same_event s fallen (Heard q rpc) marks = refl
  same_event s fallen (Late q rpc) marks = refl
  same_event s fallen BeatBegin marks = refl
  same_event s fallen (Step step) marks = refl
  same_event s fallen (Own act) marks = refl
  same_event s fallen (Lost q loss) marks = refl
  same_event s fallen Decay marks = refl
  same_event s fallen (RoundEnd r) marks = refl
  same_event s fallen Shut marks = refl

  same_done : (s : Scene) (fallen : List Fallen) (e : Entry) → done_happenings f s fallen e ≡ done_happenings g s fallen e
  same_done s fallen e =
      ap
      (λ (hs : List Happening). flat_map (fallen_happenings s) fallen
      ++ (hs
      ++ (flat_map (send_happenings s (is_answer e.event)) e.effects.sends
      ++ (flat_map (delivery_happenings s) e.effects.delivered ++ flat_map (mark_happenings s e.event) e.effects.marks))))
      (same_event s fallen e.event e.effects.marks)

-- five lists, one after the other
pub all_listed : (first a b c d e : List Happening) {one two three four all : List Happening}
    → one ≡ first ++ a
    → two ≡ one ++ b
    → three ≡ two ++ c
    → four ≡ three ++ d
    → all ≡ four ++ e
    → all ≡ first ++ (a ++ (b ++ (c ++ (d ++ e))))
all_listed first a b c d e {one = one} {two = two} {three = three} is_one is_two is_three is_four is_all =
    is_all
    ∙ ap (λ (xs : List Happening). xs ++ e) is_four
    ∙ append_assoc three d e
    ∙ ap (λ (xs : List Happening). xs ++ (d ++ e)) is_three
    ∙ append_assoc two c (d ++ e)
    ∙ ap (λ (xs : List Happening). xs ++ (c ++ (d ++ e))) is_two
    ∙ append_assoc one b (c ++ (d ++ e))
    ∙ ap (λ (xs : List Happening). xs ++ (b ++ (c ++ (d ++ e)))) is_one
    ∙ append_assoc first a (b ++ (c ++ (d ++ e)))

-- ---- lanes

lanes_out : (s : Scene) (e : Entry) (L : Entries) (qs : List PeerNo) → flat_map (λ lane. lane_happenings s lane e) (map (lane_of L) qs) ≡ links_happenings qs s L e
lanes_out s e L [] = refl
lanes_out s e L (q ∷ qs) = ap (λ (hs : List Happening). lane_happenings s (lane_of L q) e ++ hs) (lanes_out s e L qs)

lanes_on : (e : Entry) (L : Entries) (qs : List PeerNo) → map (lane_after e) (map (lane_of L) qs) ≡ map (lane_of (e ∷ L)) qs
lanes_on e L [] = refl
lanes_on e L (q ∷ qs) = ap₂ (λ (lane : Lane) (lanes : List Lane). lane ∷ lanes) (lane_goes_on L q e) (lanes_on e L qs)

-- ---- an entry

module _ (plan : Plan) (p : PeerNo) (L : Entries) (e : Entry) (notes : Notes) (known : IsNoted plan p notes L) where
  abbrev scene : Scene
  scene = of_peer e.at notes.peer

  pub entry_listed : (fallen : List Fallen) (first done all : List Happening)
      → fallen ≡ fell_away (peer_in plan p) L e.at e.event
      → done ≡ first ++ done_happenings (known_fate notes.memory) scene fallen e
      → all ≡ done ++ flat_map (λ lane. lane_happenings scene lane e) notes.lanes.items
      → all ≡ first ++ entry_happenings plan p L e
  entry_listed fallen first done all fell is_done is_all =
      is_all
      ∙ ap₂ (λ (hs : List Happening) (lanes : List Lane). hs ++ flat_map (λ lane. lane_happenings scene lane e) lanes) is_done known.lanes
      ∙ ap₂ (λ (hs gs : List Happening). (first ++ hs) ++ gs)
      (same_done (known_fate notes.memory) (fate_after L) (known_is notes.memory L known.memory) scene fallen e
      ∙ ap₂ (λ (q : PeerNo) (fs : List Fallen). done_happenings (fate_after L) (of_peer e.at q) fs e) known.peer fell)
      (lanes_out scene e L (neighbours plan p) ∙ ap (λ (q : PeerNo). links_happenings (neighbours plan p) (of_peer e.at q) L e) known.peer)
      ∙ append_assoc first (done_happenings (fate_after L) (of_peer e.at p) (fell_away (peer_in plan p) L e.at e.event) e) (links_happenings (neighbours plan p) (of_peer e.at p) L e)

  pub lanes_told : (lanes : List Lane) → lanes ≡ map (lane_after e) notes.lanes.items → lanes ≡ map (lane_of (e ∷ L)) (neighbours plan p)
  lanes_told lanes is = is ∙ ap (map (lane_after e)) known.lanes ∙ lanes_on e L (neighbours plan p)

-- ---- sizes of meshes

pub size_more : (first : List MeshSize) (f : Topic → MeshSize) (ts : List Topic) (i : ℕ) (t : Topic) (x : MeshSize) → i < length ts → t ≡ get_or ts i t → x ≡ f t → (first ++ map f (take i ts)) ++ x ∷ [] ≡ first ++ map f (take (i + 1) ts)
size_more first f ts i t x below is at =
    append_assoc first (map f (take i ts)) (x ∷ [])
    ∙ ap (λ (xs : List MeshSize). first ++ xs)
    (ap (λ (y : MeshSize). map f (take i ts) ++ y ∷ []) at
    ∙ sym (map-append f (take i ts) (t ∷ []))
    ∙ ap (map f) (ap (λ (u : Topic). take i ts ++ u ∷ []) is ∙ sym (take_more ts i t below)))

pub sizes_known : (memory : Memory) (L : Entries) (e : Entry) → Remembers memory (e ∷ L) → known_sizes memory e.at e.event ≡ entry_sizes L e
sizes_known memory L e known =
    ap₂ (λ (ms : List (Topic × PeerNo)) (ts : List Topic). of_round_end (λ r. sizes_of e.at ms ts) [] e.event) known.members known.topics

-- ---- neighbours

pub all_named : (plan : Plan) (p : PeerNo) (qs : List PeerNo) → map new_lane (peers_of (map (neighbour_in plan p) qs)) ≡ map new_lane qs
all_named plan p [] = refl
all_named plan p (q ∷ qs) = ap (λ (lanes : List Lane). new_lane q ∷ lanes) (all_named plan p qs)
