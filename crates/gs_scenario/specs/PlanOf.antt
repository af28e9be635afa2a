-- The plan that a scenario describes, or its first refusal: the keys of each table in their order.
use Rattle.std.specs.Prelude.{ℕ, ◌-◌, ◌^◌, ◌==◌, not, nat_eq, length, codes, position, find, List, [], ◌∷◌, Option, Some, None, option_map, Result, Ok, Err, if◌then◌else◌, ℤ, neg_ℤ}
use Rattle.std.specs.List.{list_any}
use Rattle.std.specs.Cmp.Lexicographic.{pointwise}
use Rattle.toml.specs.Data.{Data, Items, no_items, Members, no_members}
use Rattle.toml.specs.Parse.{parse_document}
use Rattle.gs_base.specs.declared.names.PeerNo.{PeerNo}
use Rattle.gs_base.specs.declared.names.Topic.{Topic}
use Rattle.gs_params.specs.declared.topic_params.TopicParams.{TopicParams}
use Rattle.gs_scenario.specs.declared.fault.ScenarioFault.{ScenarioFault}
use Rattle.gs_scenario.specs.declared.fault.ScenarioFault.TheVariants.{Toml, UnknownName, Repeated}
use Rattle.gs_scenario.specs.declared.reason.NameKind.TheVariants as names
use Rattle.gs_scenario.specs.declared.scenario.tables.TableKind.{TableKind}
use Rattle.gs_scenario.specs.declared.scenario.tables.TableKind.TheVariants as kinds
use Rattle.gs_scenario.specs.declared.reason.Wanted.TheVariants as wanted
use Rattle.gs_plan.specs.declared.plan.Plan.{Plan}
use Rattle.gs_plan.specs.declared.plan.PlannedPeer.{PlannedPeer}
use Rattle.gs_plan.specs.declared.plan.Dial.{Dial}
use Rattle.gs_plan.specs.declared.plan.App.{App}
use Rattle.gs_plan.specs.declared.plan.Explicit.{Explicit}
use Rattle.gs_plan.specs.declared.plan.Line.{Line}
use Rattle.gs_plan.specs.declared.plan.Act.{Act}
use Rattle.gs_plan.specs.declared.plan.Act.TheVariants.{Subscribe, Unsubscribe, Publish, Raw, HangUp}
use Rattle.gs_plan.specs.Plans.{are_joined, are_of_the_same, are_one_pair, highest_app_score, highest_capacity, highest_phase, join_the_same, longest_raw, longest_round, most_planned_topics, most_rounds, most_workers}
use Rattle.gs_plan.specs.Limits.{most_peers}
use Rattle.gs_plan.specs.declared.limits.Limits.{Limits}
use Rattle.gs_plan.specs.declared.limits.Limits.TheVariants.{Standard}
use Rattle.gs_scenario.specs.declared.scenario.script.Verb.{Verb}
use Rattle.gs_scenario.specs.declared.scenario.script.Verb.TheVariants as verbs
use Rattle.gs_scenario.specs.Keys.{Key, Kind, Section, ◌>>=◌, refuse_if, required, optional, read_key, only, read_each}
use Rattle.gs_scenario.specs.Kinds.{whole_number, multiple_of, signed_number, list_of, any_list, any_table, any_text, words, name_text, hex_text, short_hex, out_of_range, new_name, reference, word, element, section_at, table_at}
use Rattle.gs_scenario.specs.ParamsOf.{shared_names, shared_in, params_of}
use Rattle.gs_scenario.specs.TopicParamsOf.{topic_param_names, topic_params_in}

-- ---- the top table

abbrev pub round_ms_key : Key ℕ
round_ms_key = required (codes "round_ms") (whole_number 1 longest_round)

abbrev pub rounds_key : Key ℕ
rounds_key = required (codes "rounds") (whole_number 1 most_rounds)

abbrev pub workers_key : Key ℕ
workers_key = required (codes "workers") (whole_number 1 most_workers)

abbrev pub capacity_key : Key ℕ
capacity_key = required (codes "capacity") (whole_number 1 highest_capacity)

abbrev pub seed_key : Key ℕ
seed_key = required (codes "seed") (whole_number 0 (2 ^ 63 - 1))

abbrev pub params_key : Key Members
params_key = optional (codes "params") any_table no_members

abbrev pub topics_key : Key Items
topics_key = required (codes "topic") (list_of 1 most_planned_topics)

abbrev pub peers_key : Limits → Key Items
peers_key limits = required (codes "peer") (list_of 1 (most_peers limits))

abbrev pub dials_key : Key Items
dials_key = optional (codes "dial") any_list no_items

abbrev pub apps_key : Key Items
apps_key = optional (codes "app") any_list no_items

abbrev pub explicit_key : Key Items
explicit_key = optional (codes "explicit") any_list no_items

abbrev pub script_key : Key Items
script_key = optional (codes "do") any_list no_items

abbrev pub top_keys : List (List ℕ)
top_keys =
    round_ms_key.name
    ∷ rounds_key.name
    ∷ workers_key.name
    ∷ capacity_key.name
    ∷ seed_key.name
    ∷ params_key.name
    ∷ topics_key.name
    ∷ (peers_key Standard).name
    ∷ dials_key.name
    ∷ apps_key.name
    ∷ explicit_key.name
    ∷ script_key.name
    ∷ []

-- what the top table holds; the table and the lists in it are read later
pub record Top : Type 0 where
  pub round_ms : ℕ
  pub rounds : ℕ
  pub workers : ℕ
  pub capacity : ℕ
  pub seed : ℕ
  pub params : Members
  pub topics : Items
  pub peers : Items
  pub dials : Items
  pub apps : Items
  pub explicit : Items
  pub script : Items

unfoldable pub top_in : Limits → Section → Result Top ScenarioFault
top_in limits top = do
  _ ← only kinds.Top top_keys top
  round_ms ← read_key top round_ms_key
  rounds ← read_key top rounds_key
  workers ← read_key top workers_key
  capacity ← read_key top capacity_key
  seed ← read_key top seed_key
  params ← read_key top params_key
  topics ← read_key top topics_key
  peers ← read_key top (peers_key limits)
  dials ← read_key top dials_key
  apps ← read_key top apps_key
  explicit ← read_key top explicit_key
  script ← read_key top script_key
  Ok (record {
    round_ms = round_ms;
    rounds = rounds;
    workers = workers;
    capacity = capacity;
    seed = seed;
    params = params;
    topics = topics;
    peers = peers;
    dials = dials;
    apps = apps;
    explicit = explicit;
    script = script;
  })

-- ---- a topic

abbrev pub topic_named : List (Topic × TopicParams) → List ℕ → Option Topic
topic_named topics text = option_map
    (λ (found : Topic × TopicParams). found.0)
    (find (λ (topic : Topic × TopicParams). pointwise nat_eq topic.0.0 text) topics)

abbrev pub topic_name_key : List (Topic × TopicParams) → Key (List ℕ)
topic_name_key earlier = required (codes "name") (new_name (topic_named earlier))

abbrev pub topic_keys : List (List ℕ)
topic_keys = (topic_name_key []).name ∷ topic_param_names

unfoldable pub topic_in : List (Topic × TopicParams) → Data → Result (Topic × TopicParams) ScenarioFault
topic_in earlier d = do
  section ← table_at (element (codes "topic") (length earlier)) d
  _ ← only kinds.Topic topic_keys section
  text ← read_key section (topic_name_key earlier)
  params ← topic_params_in section
  Ok (record { 0 = text }, params)

-- ---- a peer

abbrev pub peer_named : List PlannedPeer → List ℕ → Option PeerNo
peer_named peers text = option_map (λ n. record { 0 = n }) (position (λ peer. pointwise nat_eq peer.name text) peers)

-- the name of a peer that is a neighbour of another
abbrev pub neighbour : List PlannedPeer → List Dial → PeerNo → Kind PeerNo
neighbour peers dials one place d = do
  text ← name_text place d
  other ← reference names.Peer (peer_named peers) place d
  refuse_if (not (are_joined dials one other)) (UnknownName place text names.Neighbour) other

abbrev pub peer_name_key : List PlannedPeer → Key (List ℕ)
peer_name_key earlier = required (codes "name") (new_name (peer_named earlier))

-- where a peer is; this is its name where the key is missing
abbrev pub address_key : List ℕ → Key (List ℕ)
address_key name = optional (codes "address") any_text name

abbrev pub words_key : Key (List ℕ)
words_key = optional (codes "words") words []

-- for how many milliseconds a peer had been up when round 0 began; 0 where the key is missing
abbrev pub phase_key : ℕ → Key ℕ
phase_key round_ms = optional (codes "phase_ms") (multiple_of round_ms (whole_number 0 highest_phase)) 0

abbrev pub peer_keys : List (List ℕ)
peer_keys = (peer_name_key []).name ∷ (address_key []).name ∷ words_key.name ∷ (phase_key 1).name ∷ []

unfoldable pub peer_in : ℕ → List PlannedPeer → Data → Result PlannedPeer ScenarioFault
peer_in round_ms earlier d = do
  section ← table_at (element (codes "peer") (length earlier)) d
  _ ← only kinds.Peer peer_keys section
  text ← read_key section (peer_name_key earlier)
  address ← read_key section (address_key text)
  firsts ← read_key section words_key
  phase ← read_key section (phase_key round_ms)
  Ok (record { name = text; address = address; words = firsts; phase_ms = phase })

-- ---- a dial

-- the name of a peer other than this one
abbrev pub other_peer : List PlannedPeer → PeerNo → Kind PeerNo
other_peer peers one place d = do
  other ← reference names.Peer (peer_named peers) place d
  refuse_if (one.0 == other.0) (out_of_range place d wanted.AnotherPeer) other

abbrev pub from_key : List PlannedPeer → Key PeerNo
from_key peers = required (codes "from") (reference names.Peer (peer_named peers))

abbrev pub to_key : List PlannedPeer → PeerNo → Key PeerNo
to_key peers one = required (codes "to") (other_peer peers one)

abbrev pub dial_keys : List (List ℕ)
dial_keys = (from_key []).name ∷ (to_key [] (record { 0 = 0 })).name ∷ []

abbrev pub new_dial : List ℕ → List Dial → Dial → Result Dial ScenarioFault
new_dial place earlier dial = refuse_if (list_any (join_the_same dial) earlier) (Repeated place) dial

unfoldable pub dial_in : List PlannedPeer → List Dial → Data → Result Dial ScenarioFault
dial_in peers earlier d = do
  section ← table_at (element (codes "dial") (length earlier)) d
  _ ← only kinds.Dial dial_keys section
  one ← read_key section (from_key peers)
  other ← read_key section (to_key peers one)
  new_dial (element (codes "dial") (length earlier)) earlier (record { from = one; to = other })

-- ---- the score that an application gives a neighbour

-- the peer that a table names
abbrev pub peer_key : List PlannedPeer → Key PeerNo
peer_key peers = required (codes "peer") (reference names.Peer (peer_named peers))

abbrev pub about_key : List PlannedPeer → List Dial → PeerNo → Key PeerNo
about_key peers dials one = required (codes "about") (neighbour peers dials one)

-- the peer that a table names, and a neighbour of it
unfoldable pub pair_in : List PlannedPeer → List Dial → Section → Result (PeerNo × PeerNo) ScenarioFault
pair_in peers dials section = do
  peer ← read_key section (peer_key peers)
  about ← read_key section (about_key peers dials peer)
  Ok (peer, about)

abbrev pub value_key : Key ℤ
value_key = required (codes "value") (signed_number (neg_ℤ highest_app_score) highest_app_score)

abbrev pub app_keys : List (List ℕ)
app_keys = (peer_key []).name ∷ (about_key [] [] (record { 0 = 0 })).name ∷ value_key.name ∷ []

abbrev pub new_app : List ℕ → List App → App → Result App ScenarioFault
new_app place earlier app = refuse_if (list_any (are_of_the_same app) earlier) (Repeated place) app

unfoldable pub app_in : List PlannedPeer → List Dial → List App → Data → Result App ScenarioFault
app_in peers dials earlier d = do
  section ← table_at (element (codes "app") (length earlier)) d
  _ ← only kinds.App app_keys section
  pair ← pair_in peers dials section
  value ← read_key section value_key
  new_app (element (codes "app") (length earlier)) earlier (record { peer = pair.0; about = pair.1; value = value })

-- ---- an agreement of a peer with a neighbour

abbrev pub explicit_keys : List (List ℕ)
explicit_keys = (peer_key []).name ∷ (about_key [] [] (record { 0 = 0 })).name ∷ []

abbrev pub new_agreement : List ℕ → List Explicit → Explicit → Result Explicit ScenarioFault
new_agreement place earlier one = refuse_if (list_any (are_one_pair one) earlier) (Repeated place) one

unfoldable pub agreement_in : List PlannedPeer → List Dial → List Explicit → Data → Result Explicit ScenarioFault
agreement_in peers dials earlier d = do
  section ← table_at (element (codes "explicit") (length earlier)) d
  _ ← only kinds.Explicit explicit_keys section
  pair ← pair_in peers dials section
  new_agreement (element (codes "explicit") (length earlier)) earlier (record { peer = pair.0; about = pair.1 })

-- ---- a line of the script

-- what a word of the script tells a peer to do
abbrev pub verb_of : List ℕ → Option Verb
verb_of text =
    if pointwise nat_eq text (codes "subscribe") then Some verbs.Subscribe
    else if pointwise nat_eq text (codes "unsubscribe") then Some verbs.Unsubscribe
    else if pointwise nat_eq text (codes "publish") then Some verbs.Publish
    else if pointwise nat_eq text (codes "raw") then Some verbs.Raw
    else if pointwise nat_eq text (codes "hang_up") then Some verbs.HangUp
    else None

abbrev pub what_key : Key Verb
what_key = required (codes "what") (word verb_of)

abbrev pub at_key : ℕ → Key ℕ
at_key rounds = required (codes "at") (whole_number 0 rounds)

abbrev pub topic_key : List (Topic × TopicParams) → Key Topic
topic_key topics = required (codes "topic") (reference names.Topic (topic_named topics))

abbrev pub hex_key : Key (List ℕ)
hex_key = required (codes "hex") hex_text

-- the neighbour whose link it is done to
abbrev pub link_key : List PlannedPeer → List Dial → PeerNo → Key PeerNo
link_key peers dials one = required (codes "to") (neighbour peers dials one)

abbrev pub raw_key : Key (List ℕ)
raw_key = required (codes "hex") (short_hex longest_raw)

-- the keys of every line, and then these others
abbrev pub line_keys : List (List ℕ) → List (List ℕ)
line_keys others = what_key.name ∷ (at_key 0).name ∷ (peer_key []).name ∷ others

-- the keys of a line that is done to a link, and then these others
abbrev pub link_keys : List (List ℕ) → List (List ℕ)
link_keys others = line_keys ((link_key [] [] (record { 0 = 0 })).name ∷ others)

-- the kind of table for a line with this word
abbrev pub line_kind : Verb → TableKind
line_kind verbs.Subscribe = kinds.SubscriptionLine
line_kind verbs.Unsubscribe = kinds.SubscriptionLine
line_kind verbs.Publish = kinds.PublishLine
line_kind verbs.Raw = kinds.RawLine
line_kind verbs.HangUp = kinds.HangUpLine

-- the keys that each table may have, in the order in which they are read
abbrev pub known_keys : TableKind → List (List ℕ)
known_keys kinds.Top = top_keys
known_keys kinds.Params = shared_names
known_keys kinds.Topic = topic_keys
known_keys kinds.Peer = peer_keys
known_keys kinds.Dial = dial_keys
known_keys kinds.App = app_keys
known_keys kinds.Explicit = explicit_keys
known_keys kinds.SubscriptionLine = line_keys ((topic_key []).name ∷ [])
known_keys kinds.PublishLine = line_keys ((topic_key []).name ∷ hex_key.name ∷ [])
known_keys kinds.RawLine = link_keys (raw_key.name ∷ [])
known_keys kinds.HangUpLine = link_keys []

-- what a line with this word tells a peer to do
unfoldable pub what_in : List (Topic × TopicParams) → List PlannedPeer → List Dial → Section → PeerNo → Verb
    → Result Act ScenarioFault
what_in topics peers dials section peer verbs.Subscribe = do
  topic ← read_key section (topic_key topics)
  Ok (Subscribe topic)
what_in topics peers dials section peer verbs.Unsubscribe = do
  topic ← read_key section (topic_key topics)
  Ok (Unsubscribe topic)
what_in topics peers dials section peer verbs.Publish = do
  topic ← read_key section (topic_key topics)
  payload ← read_key section hex_key
  Ok (Publish topic payload)
what_in topics peers dials section peer verbs.Raw = do
  to ← read_key section (link_key peers dials peer)
  bytes ← read_key section raw_key
  Ok (Raw to bytes)
what_in topics peers dials section peer verbs.HangUp = do
  to ← read_key section (link_key peers dials peer)
  Ok (HangUp to)

-- what a line tells a peer to do; such a line must have no other keys than its own
unfoldable pub verb_in : Section → Result Verb ScenarioFault
verb_in section = do
  verb ← read_key section what_key
  _ ← only (line_kind verb) (known_keys (line_kind verb)) section
  Ok verb

unfoldable pub line_in : List (Topic × TopicParams) → List PlannedPeer → List Dial → ℕ → List Line → Data
    → Result Line ScenarioFault
line_in topics peers dials rounds earlier d = do
  section ← table_at (element (codes "do") (length earlier)) d
  verb ← verb_in section
  round ← read_key section (at_key rounds)
  peer ← read_key section (peer_key peers)
  what ← what_in topics peers dials section peer verb
  Ok (record { at = round; peer = peer; what = what })

-- ---- the plan

-- the top table is read, then the tables and lists in it in the order of their keys; the parameters are checked last
unfoldable pub plan_in : Limits → Members → Result Plan ScenarioFault
plan_in limits members = do
  top ← top_in limits (record { path = []; members = members })
  shared ← shared_in top.round_ms (section_at params_key.name top.params)
  topics ← read_each topic_in [] top.topics
  peers ← read_each (peer_in top.round_ms) [] top.peers
  dials ← read_each (dial_in peers) [] top.dials
  apps ← read_each (app_in peers dials) [] top.apps
  explicit ← read_each (agreement_in peers dials) [] top.explicit
  script ← read_each (line_in topics peers dials top.rounds) [] top.script
  params ← params_of shared topics
  Ok (record {
    round_ms = top.round_ms;
    rounds = top.rounds;
    workers = top.workers;
    capacity = top.capacity;
    seed = top.seed;
    params = params;
    peers = peers;
    dials = dials;
    apps = apps;
    explicit = explicit;
    script = script;
  })

abbrev pub plan_of_document : Limits → Option Members → Result Plan ScenarioFault
plan_of_document limits None = Err Toml
plan_of_document limits (Some members) = plan_in limits members

-- the plan that a text describes within these limits, or its first refusal
abbrev pub plan_of : Limits → List ℕ → Result Plan ScenarioFault
plan_of limits text = plan_of_document limits (parse_document text)
