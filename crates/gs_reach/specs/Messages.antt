-- How far each message got.
use Rattle.std.specs.Prelude.{ℕ, ◌-◌, ◌/◌, max, min, Bool, true, false, not, ◌&&◌, ◌||◌, nat_eq, nat_le, nat_lt, if◌then◌else◌, List, [], ◌∷◌, length, filter, fold, map, Option, Some, None}
use Rattle.std.specs.List.{list_any}
use Rattle.std.specs.Map.{lookup}
use Rattle.gs_base.specs.declared.names.PeerNo.{PeerNo}
use Rattle.gs_base.specs.declared.names.Topic.{Topic}
use Rattle.gs_base.specs.declared.names.Millis.{Millis}
use Rattle.gs_base.specs.Names.{same_peer, same_topic}
use Rattle.gs_plan.specs.declared.plan.Dial.{Dial}
use Rattle.gs_plan.specs.declared.plan.Plan.{Plan}
use Rattle.gs_rules.specs.Rules.{same_bytes}
use Rattle.gs_rules.specs.Outcomes.{verdict_by}
use Rattle.gs_report.specs.declared.finished.Finished.{Finished}
use Rattle.gs_report.specs.declared.report.Report.{Report}
use Rattle.gs_reach.specs.declared.listed.Appearance.{Appearance}
use Rattle.gs_reach.specs.declared.listed.Arrival.{Arrival}
use Rattle.gs_reach.specs.declared.listed.Change.{Change}
use Rattle.gs_reach.specs.declared.listed.Turn.{Turn}
use Rattle.gs_reach.specs.declared.listed.Loss.{Loss}
use Rattle.gs_reach.specs.declared.listed.Listed.{Listed}
use Rattle.gs_reach.specs.declared.messages.MessageReach.{MessageReach}
use Rattle.gs_reach.specs.declared.pairs.Pair.{Pair}
use Rattle.gs_reach.specs.Listed.{listed}
use Rattle.gs_reach.specs.Order.{ascending}

-- ---- what one message is

-- two are the same payload on the same topic
abbrev pub are_of_one : Appearance → Appearance → Bool
are_of_one x y = same_topic x.topic y.topic && same_bytes x.payload y.payload

-- two publications of it at the same moment are one message, whichever peers publish it
abbrev pub same_message : Appearance → Appearance → Bool
same_message x y = are_of_one x y && nat_eq x.at.0 y.at.0

-- each publication, except those that are the same message as one before it
abbrev pub firsts : List Appearance → List Appearance
firsts [] = []
firsts (x ∷ xs) = x ∷ filter (λ y. not (same_message x y)) (firsts xs)

-- by moment; those at the same moment keep their order
abbrev pub in_order : List Appearance → List Appearance
in_order xs = ascending (λ (x : Appearance). x.at.0) xs

-- ---- where and when

abbrev pub arrival_of : Appearance → Arrival
arrival_of x = record { peer = x.peer; at = x.at }

-- where and when the payload of one appears on its topic, among these
abbrev pub appearances : Appearance → List Appearance → List Arrival
appearances m all = map arrival_of (filter (are_of_one m) all)

-- where and when a payload appears, on any topic
abbrev pub arrivals : List ℕ → List Appearance → List Arrival
arrivals payload all = map arrival_of (filter (λ (x : Appearance). same_bytes payload x.payload) all)

abbrev pub turn_of : Change → Turn
turn_of c = record { peer = c.peer; at = c.at; subscribes = c.subscribes }

-- who subscribed to a topic or left it, and when
abbrev pub turns : Topic → List Change → List Turn
turns t changes = map turn_of (filter (λ (c : Change). same_topic t c.topic) changes)

-- ---- who publishes it, and who could be reached

-- a peer publishes the message
abbrev pub publishes : List Appearance → Appearance → PeerNo → Bool
publishes published m q = list_any (λ (x : Arrival). nat_eq x.at.0 m.at.0 && same_peer x.peer q) (appearances m published)

-- how many of these peers publish it
abbrev pub publishers : List Appearance → Appearance → List PeerNo → ℕ
publishers published m peers = length (filter (publishes published m) peers)

-- a peer subscribed or left before a moment
abbrev pub is_turn_of : PeerNo → Millis → Turn → Bool
is_turn_of p at x = same_peer x.peer p && nat_lt x.at.0 at.0

-- a peer was subscribed to a topic before a moment: what the last of its turns before it says
abbrev pub was_subscribed : List Change → Topic → Millis → PeerNo → Bool
was_subscribed changes t at p = fold (λ before (x : Turn). if is_turn_of p at x then x.subscribes else before) false (turns t changes)

-- a peer lost a neighbour before a moment
abbrev pub is_loss_of : Millis → PeerNo → PeerNo → Loss → Bool
is_loss_of at p q x = same_peer x.peer p && (same_peer x.neighbour q && nat_lt x.at.0 at.0)

abbrev pub had_lost : List Loss → Millis → PeerNo → PeerNo → Bool
had_lost losses at p q = list_any (is_loss_of at p q) losses

-- a peer is an end of a dial, and did not lose the other end before a moment
abbrev pub still_joins : List Loss → Millis → PeerNo → Dial → Bool
still_joins losses at p dial =
    (same_peer dial.from p && not (had_lost losses at dial.from dial.to))
    || (same_peer dial.to p && not (had_lost losses at dial.to dial.from))

-- before a moment a peer had at least one neighbour that it did not lose
abbrev pub was_linked : List Dial → List Loss → Millis → PeerNo → Bool
was_linked dials losses at p = list_any (still_joins losses at p) dials

-- A peer that could be reached: it does not publish the message, and before its moment it was subscribed and linked.
abbrev pub is_subscriber : List Dial → Listed → Appearance → PeerNo → Bool
is_subscriber dials l m q =
    not (publishes l.published m q) && (was_subscribed l.changes m.topic m.at q && was_linked dials l.losses m.at q)

-- ---- in how many rounds

-- the lesser of two numbers that may be absent
abbrev pub lesser : Option ℕ → Option ℕ → Option ℕ
lesser None n = n
lesser (Some m) None = Some m
lesser (Some m) (Some n) = Some (min m n)

-- the least of these, if there is one
abbrev pub least : List (Option ℕ) → Option ℕ
least ns = fold lesser None ns

-- a publication is later than a moment by at least the time for which a message is seen, so it is a new message again
abbrev pub is_again : ℕ → ℕ → Arrival → Bool
is_again ttl from x = nat_lt from x.at.0 && nat_le ttl (x.at.0 - from)

-- the moment of the first of these that is a new message again
abbrev pub end_of : ℕ → ℕ → List Arrival → Option ℕ
end_of ttl from published = least (map (λ (x : Arrival). Some x.at.0) (filter (is_again ttl from) published))

-- a moment comes before an end, where there is one
abbrev pub is_before : Option ℕ → ℕ → Bool
is_before None at = true
is_before (Some end) at = nat_lt at end

-- In how many rounds a delivery brought what is published at a moment. A delivery before that moment, by less than the time
-- for which a message is seen, takes 0 rounds. An older one does not count, nor does one from the end on.
abbrev pub rounds_by : Plan → ℕ → Option ℕ → Arrival → Option ℕ
rounds_by plan from end x =
    if nat_lt x.at.0 from then (if nat_lt (from - x.at.0) plan.params.timing.seen_ttl_ms then Some 0 else None)
    else if is_before end x.at.0 then Some ((x.at.0 - from) / max 1 plan.round_ms)
    else None

-- in how many rounds the first of these deliveries reached a peer
abbrev pub rounds_among : Plan → ℕ → Option ℕ → List Arrival → PeerNo → Option ℕ
rounds_among plan from end delivered q =
    least (map (rounds_by plan from end) (filter (λ (x : Arrival). same_peer x.peer q) delivered))

-- in how many rounds a message reached a peer, on any topic, if it did
abbrev pub rounds_to : Plan → Listed → Appearance → PeerNo → Option ℕ
rounds_to plan l m q =
    rounds_among plan m.at.0 (end_of plan.params.timing.seen_ttl_ms m.at.0 (appearances m l.published)) (arrivals m.payload l.delivered) q

-- ---- messages

-- the peers among these that could be reached, in their order, each with the rounds
abbrev pub pairs_of : Plan → Listed → Appearance → List PeerNo → List Pair
pairs_of plan l m peers = map (λ q. record { subscriber = q; rounds = rounds_to plan l m q }) (filter (is_subscriber plan.dials l m) peers)

unfoldable pub message_reach : Plan → Listed → List PeerNo → Appearance → MessageReach
message_reach plan l peers m = record {
  publication = m;
  publishers = publishers l.published m peers;
  verdict = verdict_by (lookup (same_topic m.topic) plan.params.topics) m.payload;
  pairs = pairs_of plan l m peers;
}

-- the numbers of these peers, in their order
abbrev pub numbers_of : List (PeerNo × Finished) → List PeerNo
numbers_of peers = map (λ (x : PeerNo × Finished). x.0) peers

-- The messages that traces of these peers tell, each as its first publication. They are by moment, then by the order of the
-- peers, then by the order of their traces.
abbrev pub messages_by : Plan → Listed → List PeerNo → List MessageReach
messages_by plan l peers = map (message_reach plan l peers) (in_order (firsts l.published))

-- the messages of a run
abbrev pub messages : Plan → Report → List MessageReach
messages plan report = messages_by plan (listed report.peers.items) (numbers_of report.peers.items)
