-- The peers, topics, dials, scores, agreements and lines of a plan that is read are in range.
use Rattle.std.proofs.Common.{◌≡◌, ℕ, ◌≤◌, ◌<◌, ◌%◌, nat_eq, Bool, true, false, cond, not, List, [], ◌∷◌, ◌++◌, length, codes, Option, Some, None, Ok, refl, arith}
use Rattle.std.specs.Prelude.{◌||◌, ◌==◌, neg_ℤ, IfOk, IfSome, is_some, option_map, position, find, All, AllPairs}
use Rattle.std.specs.List.{list_any}
use Rattle.std.specs.Cmp.Lexicographic.{pointwise}
use Rattle.std.proofs.Math.Nat.{zero-mod}
use Rattle.std.proofs.lemmas.List.Elements.{All-nil, All-push}
use Rattle.std.proofs.lemmas.List.Quantifiers.{all_pairs_push, position-Some}
use Rattle.toml.specs.Data.{Data, Items}
use Rattle.gs_base.specs.declared.names.PeerNo.{PeerNo}
use Rattle.gs_base.specs.declared.names.Topic.{Topic}
use Rattle.gs_base.specs.Names.{same_peer, same_topic}
use Rattle.gs_plan.specs.Plans.{IsOneOf, IsAppScore, are_joined, are_of_the_same, are_one_pair, has_topic, highest_app_score, highest_phase, have_one_name, join_the_same, longest_raw, neighbour_of, raw_of, topic_of}
use Rattle.gs_params.specs.declared.topic_params.TopicParams.{TopicParams}
use Rattle.gs_plan.specs.declared.plan.App.{App}
use Rattle.gs_plan.specs.declared.plan.Dial.{Dial}
use Rattle.gs_plan.specs.declared.plan.Explicit.{Explicit}
use Rattle.gs_plan.specs.declared.plan.Line.{Line}
use Rattle.gs_plan.specs.declared.plan.PlannedPeer.{PlannedPeer}
use Rattle.gs_plan.specs.declared.plan.Act.{Act}
use Rattle.gs_plan.specs.declared.plan.Act.TheVariants.{HangUp, Publish, Raw, Subscribe, Unsubscribe}
use Rattle.gs_scenario.specs.declared.scenario.script.Verb.{Verb}
use Rattle.gs_scenario.specs.declared.scenario.script.Verb.TheVariants as verbs
use Rattle.gs_scenario.specs.declared.reason.NameKind.TheVariants as names
use Rattle.gs_scenario.specs.declared.scenario.tables.TableKind.TheVariants as kinds
use Rattle.gs_scenario.specs.Refusal.{item_count}
use Rattle.gs_scenario.specs.Keys.{◌>>=◌, Section, only, read_key, read_each}
use Rattle.gs_scenario.specs.Kinds.{multiple_of, whole_number, signed_number, name_text, short_hex, reference, new_name, element, table_at}
use Rattle.gs_scenario.specs.TopicParamsOf.{topic_params_in}
use Rattle.gs_scenario.specs.PlanOf.{from_key, to_key, dial_keys, topic_name_key, topic_keys, peer_name_key, address_key, words_key, phase_key, peer_keys, peer_key, about_key, value_key, app_keys, explicit_keys, at_key, topic_key, hex_key, link_key, raw_key, topic_named, topic_in, peer_named, peer_in, other_peer, dial_in, neighbour, pair_in, app_in, agreement_in, what_in, verb_in, line_in}
use Rattle.gs_scenario.proofs.Ranges.{next, past, not_refused, at_optional, at_required, both_are, multiple_between, number_is, signed_is, short_hex_is, reference_is, not_failed, each_is, count_is, none_at, and_also, new_is, no_position, not_found, differ_push, no_pairs, same_bytes}

-- ---- names

number_below : (n : ℕ) (o : Option ℕ) → ((i : ℕ) → o ≡ Some i → i < n) → IfSome (option_map (λ i. let p : PeerNo = record { 0 = i } in p) o) (λ p. p.0 < n)
number_below n None h = tt
number_below n (Some i) h = h i refl

-- who has a name is one of the peers
named_is : (peers : List PlannedPeer) (text : List ℕ) → IfSome (peer_named peers text) (IsOneOf peers)
named_is peers text =
    number_below (length peers) (position (λ peer. pointwise nat_eq peer.name text) peers)
    (λ i e. (position-Some (λ (peer : PlannedPeer). pointwise nat_eq peer.name text) peers i (record { name = []; address = []; words = []; phase_ms = 0 }) e).0)

pub peer_is : (peers : List PlannedPeer) (place : List ℕ) (d : Data) → IfOk (reference names.Peer (peer_named peers) place d) (IsOneOf peers)
peer_is peers = reference_is (IsOneOf peers) names.Peer (peer_named peers) (named_is peers)

-- a topic that is found by a test is one of them
or_later : (a b : Bool) → b ≡ true → (a || b) ≡ true
or_later true b h = refl
or_later false b h = h

found_is : (p : (Topic × TopicParams) → Bool) (topics : List (Topic × TopicParams)) → IfSome (option_map (λ (found : Topic × TopicParams). found.0) (find p topics)) (λ topic. has_topic topics topic ≡ true)
found_is p [] = tt
found_is p (x ∷ topics) = elim (p x) as (λ b. IfSome (option_map (λ (found : Topic × TopicParams). found.0) (cond b (Some x) (find p topics))) (λ topic. has_topic (x ∷ topics) topic ≡ true)) [
  | true ↦ rw (same_bytes x.0.0) refl
  | false ↦ later (find p topics) (found_is p topics)
]
  where
    later : (o : Option (Topic × TopicParams)) → IfSome (option_map (λ (found : Topic × TopicParams). found.0) o) (λ topic. has_topic topics topic ≡ true) → IfSome (option_map (λ (found : Topic × TopicParams). found.0) o) (λ topic. has_topic (x ∷ topics) topic ≡ true)
    later None h = tt
    later (Some y) h = or_later _ _ h

pub topic_is : (topics : List (Topic × TopicParams)) (place : List ℕ) (d : Data) → IfOk (reference names.Topic (topic_named topics) place d) (λ topic. has_topic topics topic ≡ true)
topic_is topics = reference_is (λ topic. has_topic topics topic ≡ true) names.Topic (topic_named topics) (λ text. found_is (λ (topic : Topic × TopicParams). pointwise nat_eq topic.0.0 text) topics)

-- ---- peers and topics

abbrev NamesDiffer : List PlannedPeer → Type 0
NamesDiffer peers = AllPairs (λ x y. have_one_name x y ≡ false) peers

-- nobody has the name yet
abbrev IsNewName : List PlannedPeer → List ℕ → Type 0
IsNewName earlier text = is_some (peer_named earlier text) ≡ false

new_name_is : (earlier : List PlannedPeer) (place : List ℕ) (d : Data) → IfOk (new_name (peer_named earlier) place d) (IsNewName earlier)
new_name_is earlier = new_is (IsNewName earlier) (peer_named earlier) (λ text e. e)

one_peer_more : (earlier : List PlannedPeer) (peer : PlannedPeer) → IsNewName earlier peer.name → NamesDiffer earlier → NamesDiffer (earlier ++ peer ∷ [])
one_peer_more earlier peer new h =
    all_pairs_push (λ x y. have_one_name x y ≡ false) earlier peer h
    (no_position (λ i. let p : PeerNo = record { 0 = i } in p) (λ (x : PlannedPeer). pointwise nat_eq x.name peer.name) earlier new)

-- peers with different names, each with a phase that it may have
pub record PeersAreGiven (round_ms : ℕ) (peers : List PlannedPeer) : Type 0 where
  pub differ : NamesDiffer peers
  pub phases : All (λ (peer : PlannedPeer). peer.phase_ms ≤ highest_phase) peers
  pub take_rounds : All (λ (peer : PlannedPeer). peer.phase_ms % round_ms ≡ 0) peers

abbrev IsPhase : ℕ → ℕ → Type 0
IsPhase round_ms n = (n ≤ highest_phase) × (n % round_ms ≡ 0)

phase_is : (round_ms : ℕ) (section : Section) → IfOk (read_key section (phase_key round_ms)) (IsPhase round_ms)
phase_is round_ms section =
    at_optional (IsPhase round_ms) (phase_key round_ms).name (multiple_of round_ms (whole_number 0 highest_phase)) 0 section
    (omega arith, zero-mod round_ms) (multiple_between 0 highest_phase round_ms)

one_given_more : (round_ms : ℕ) (earlier : List PlannedPeer) (peer : PlannedPeer) → IsNewName earlier peer.name → IsPhase round_ms peer.phase_ms → PeersAreGiven round_ms earlier → PeersAreGiven round_ms (earlier ++ peer ∷ [])
one_given_more round_ms earlier peer new phase h = record {
  differ = one_peer_more earlier peer new h.differ;
  phases = All-push (λ (x : PlannedPeer). x.phase_ms ≤ highest_phase) earlier peer h.phases phase.0;
  take_rounds = All-push (λ (x : PlannedPeer). x.phase_ms % round_ms ≡ 0) earlier peer h.take_rounds phase.1;
}

given_is : (round_ms : ℕ) (earlier : List PlannedPeer) (d : Data) → PeersAreGiven round_ms earlier → IfOk (peer_in round_ms earlier d) (λ peer. PeersAreGiven round_ms (earlier ++ peer ∷ []))
unfolding peer_in
given_is round_ms earlier d h =
    let P = λ (peer : PlannedPeer). PeersAreGiven round_ms (earlier ++ peer ∷ []) in
    past P (table_at (element (codes "peer") (length earlier)) d) _ (λ section.
    past P (only kinds.Peer peer_keys section) _ (λ none.
    next (IsNewName earlier) P (read_key section (peer_name_key earlier)) _ (at_required (IsNewName earlier) (peer_name_key earlier).name (new_name (peer_named earlier)) section (new_name_is earlier)) (λ text new.
    past P (read_key section (address_key text)) _ (λ address.
    past P (read_key section words_key) _ (λ firsts.
    next (IsPhase round_ms) P (read_key section (phase_key round_ms)) _ (phase_is round_ms section) (λ phase in_range.
    one_given_more round_ms earlier (record { name = text; address = address; words = firsts; phase_ms = phase }) new in_range h))))))

-- n such peers
pub record PeersAre (round_ms n : ℕ) (peers : List PlannedPeer) : Type 0 where
  pub count : length peers ≡ n
  pub given : PeersAreGiven round_ms peers

none_given : (round_ms : ℕ) → PeersAreGiven round_ms []
none_given round_ms = record {
  differ = no_pairs (λ x y. have_one_name x y ≡ false);
  phases = All-nil _;
  take_rounds = All-nil _;
}

pub peers_are : (round_ms : ℕ) (ds : Items) → IfOk (read_each (peer_in round_ms) [] ds) (PeersAre round_ms (item_count ds))
peers_are round_ms ds =
    both_are (λ peers. length peers ≡ item_count ds) (PeersAreGiven round_ms) (PeersAre round_ms (item_count ds)) (read_each (peer_in round_ms) [] ds)
    (λ peers count given. record { count = count; given = given })
    (count_is (peer_in round_ms) (item_count ds) [] ds (omega arith))
    (each_is (PeersAreGiven round_ms) (peer_in round_ms) (given_is round_ms) [] ds (none_given round_ms))

abbrev pub TopicsDiffer : List (Topic × TopicParams) → Type 0
TopicsDiffer topics = AllPairs (λ (x y : Topic × TopicParams). same_topic x.0 y.0 ≡ false) topics

abbrev IsNewTopic : List (Topic × TopicParams) → List ℕ → Type 0
IsNewTopic earlier text = is_some (topic_named earlier text) ≡ false

new_topic_is : (earlier : List (Topic × TopicParams)) (place : List ℕ) (d : Data) → IfOk (new_name (topic_named earlier) place d) (IsNewTopic earlier)
new_topic_is earlier = new_is (IsNewTopic earlier) (topic_named earlier) (λ text e. e)

one_topic_more : (earlier : List (Topic × TopicParams)) (topic : Topic × TopicParams) → IsNewTopic earlier topic.0.0 → TopicsDiffer earlier → TopicsDiffer (earlier ++ topic ∷ [])
one_topic_more earlier topic new h =
    all_pairs_push (λ (x y : Topic × TopicParams). same_topic x.0 y.0 ≡ false) earlier topic h
    (none_at (λ (x : Topic × TopicParams). pointwise nat_eq x.0.0 topic.0.0) earlier (not_found (λ (found : Topic × TopicParams). found.0) (λ (x : Topic × TopicParams). pointwise nat_eq x.0.0 topic.0.0) earlier new))

topic_name_is : (earlier : List (Topic × TopicParams)) (d : Data) → TopicsDiffer earlier → IfOk (topic_in earlier d) (λ topic. TopicsDiffer (earlier ++ topic ∷ []))
unfolding topic_in
topic_name_is earlier d h =
    let P = λ (topic : Topic × TopicParams). TopicsDiffer (earlier ++ topic ∷ []) in
    past P (table_at (element (codes "topic") (length earlier)) d) _ (λ section.
    past P (only kinds.Topic topic_keys section) _ (λ none.
    next (IsNewTopic earlier) P (read_key section (topic_name_key earlier)) _ (at_required (IsNewTopic earlier) (topic_name_key earlier).name (new_name (topic_named earlier)) section (new_topic_is earlier)) (λ text new.
    past P (topic_params_in section) _ (λ params.
    let name : Topic = record { 0 = text } in
    one_topic_more earlier (name, params) new h))))

abbrev pub TopicsAre : ℕ → List (Topic × TopicParams) → Type 0
TopicsAre n topics = (length topics ≡ n) × TopicsDiffer topics

pub topics_are : (ds : Items) → IfOk (read_each topic_in [] ds) (TopicsAre (item_count ds))
topics_are ds =
    and_also (λ topics. length topics ≡ item_count ds) TopicsDiffer (read_each topic_in [] ds) (count_is topic_in (item_count ds) [] ds (omega arith))
    (each_is TopicsDiffer topic_in topic_name_is [] ds (no_pairs (λ (x y : Topic × TopicParams). same_topic x.0 y.0 ≡ false)))

-- ---- dials

pub record DialsAre (peers : List PlannedPeer) (dials : List Dial) : Type 0 where
  pub from : All (λ (dial : Dial). IsOneOf peers dial.from) dials
  pub to : All (λ (dial : Dial). IsOneOf peers dial.to) dials
  pub others : All (λ (dial : Dial). same_peer dial.from dial.to ≡ false) dials
  pub differ : AllPairs (λ x y. join_the_same y x ≡ false) dials

-- one that is dialled is a peer, and not who dials
abbrev IsOther : List PlannedPeer → PeerNo → PeerNo → Type 0
IsOther peers one other = IsOneOf peers other × (same_peer one other ≡ false)

other_is : (peers : List PlannedPeer) (one : PeerNo) (place : List ℕ) (d : Data) → IfOk (other_peer peers one place d) (IsOther peers one)
other_is peers one place d =
    next (IsOneOf peers) (IsOther peers one) (reference names.Peer (peer_named peers) place d) _ (peer_is peers place d)
    (λ other known. not_refused (IsOther peers one) (one.0 == other.0) _ other (λ e. (known, e)))

one_dial_more : (peers : List PlannedPeer) (earlier : List Dial) (dial : Dial) → IsOneOf peers dial.from → IsOther peers dial.from dial.to → list_any (join_the_same dial) earlier ≡ false → DialsAre peers earlier → DialsAre peers (earlier ++ dial ∷ [])
one_dial_more peers earlier dial from to new h = record {
  from = All-push (λ (x : Dial). IsOneOf peers x.from) earlier dial h.from from;
  to = All-push (λ (x : Dial). IsOneOf peers x.to) earlier dial h.to to.0;
  others = All-push (λ (x : Dial). same_peer x.from x.to ≡ false) earlier dial h.others to.1;
  differ = differ_push join_the_same earlier dial h.differ new;
}

dial_is : (peers : List PlannedPeer) (earlier : List Dial) (d : Data) → DialsAre peers earlier → IfOk (dial_in peers earlier d) (λ dial. DialsAre peers (earlier ++ dial ∷ []))
unfolding dial_in
dial_is peers earlier d h =
    let P = λ (dial : Dial). DialsAre peers (earlier ++ dial ∷ []) in
    past P (table_at (element (codes "dial") (length earlier)) d) _
    (λ section. past P (only kinds.Dial dial_keys section) _
    (λ none. next (IsOneOf peers) P (read_key section (from_key peers)) _ (at_required (IsOneOf peers) (from_key peers).name (reference names.Peer (peer_named peers)) section (peer_is peers))
    (λ one from. next (IsOther peers one) P (read_key section (to_key peers one)) _ (at_required (IsOther peers one) (to_key peers one).name (other_peer peers one) section (other_is peers one))
    (λ other to.
    let dial : Dial = record { from = one; to = other } in
    not_refused P (list_any (join_the_same dial) earlier) _ dial (λ new. one_dial_more peers earlier dial from to new h)))))

pub dials_are : (peers : List PlannedPeer) (ds : Items) → IfOk (read_each (dial_in peers) [] ds) (DialsAre peers)
dials_are peers ds = each_is (DialsAre peers) (dial_in peers) (dial_is peers) [] ds (record { from = All-nil _; to = All-nil _; others = All-nil _; differ = no_pairs (λ x y. join_the_same y x ≡ false) })

-- ---- a peer and its neighbour

abbrev IsPair : List PlannedPeer → List Dial → PeerNo × PeerNo → Type 0
IsPair peers dials pair = IsOneOf peers pair.0 × (are_joined dials pair.0 pair.1 ≡ true)

neighbour_is : (peers : List PlannedPeer) (dials : List Dial) (one : PeerNo) (place : List ℕ) (d : Data) → IfOk (neighbour peers dials one place d) (λ other. are_joined dials one other ≡ true)
neighbour_is peers dials one place d =
    let P = λ (other : PeerNo). are_joined dials one other ≡ true in
    past P (name_text place d) _
    (λ text. past P (reference names.Peer (peer_named peers) place d) _
    (λ other. not_refused P (not (are_joined dials one other)) _ other (not_failed (are_joined dials one other))))

pair_is : (peers : List PlannedPeer) (dials : List Dial) (section : Section) → IfOk (pair_in peers dials section) (IsPair peers dials)
unfolding pair_in
pair_is peers dials section =
    let P = IsPair peers dials in
    next (IsOneOf peers) P (read_key section (peer_key peers)) _ (at_required (IsOneOf peers) (peer_key peers).name (reference names.Peer (peer_named peers)) section (peer_is peers))
    (λ peer of. next (λ other. are_joined dials peer other ≡ true) P (read_key section (about_key peers dials peer)) _ (at_required (λ other. are_joined dials peer other ≡ true) (about_key peers dials peer).name (neighbour peers dials peer) section (neighbour_is peers dials peer))
    (λ about joined. (of, joined)))

-- ---- scores

pub record AppsAre (peers : List PlannedPeer) (dials : List Dial) (apps : List App) : Type 0 where
  pub of : All (λ (app : App). IsOneOf peers app.peer) apps
  pub about : All (λ (app : App). are_joined dials app.peer app.about ≡ true) apps
  pub values : All (λ (app : App). IsAppScore app.value) apps
  pub differ : AllPairs (λ x y. are_of_the_same y x ≡ false) apps

one_app_more : (peers : List PlannedPeer) (dials : List Dial) (earlier : List App) (app : App) → IsOneOf peers app.peer → are_joined dials app.peer app.about ≡ true → IsAppScore app.value → list_any (are_of_the_same app) earlier ≡ false → AppsAre peers dials earlier → AppsAre peers dials (earlier ++ app ∷ [])
one_app_more peers dials earlier app of about value new h = record {
  of = All-push (λ (x : App). IsOneOf peers x.peer) earlier app h.of of;
  about = All-push (λ (x : App). are_joined dials x.peer x.about ≡ true) earlier app h.about about;
  values = All-push (λ (x : App). IsAppScore x.value) earlier app h.values value;
  differ = differ_push are_of_the_same earlier app h.differ new;
}

app_is : (peers : List PlannedPeer) (dials : List Dial) (earlier : List App) (d : Data) → AppsAre peers dials earlier → IfOk (app_in peers dials earlier d) (λ app. AppsAre peers dials (earlier ++ app ∷ []))
unfolding app_in
app_is peers dials earlier d h =
    let P = λ (app : App). AppsAre peers dials (earlier ++ app ∷ []) in
    past P (table_at (element (codes "app") (length earlier)) d) _
    (λ section. past P (only kinds.App app_keys section) _
    (λ none. next (IsPair peers dials) P (pair_in peers dials section) _ (pair_is peers dials section)
    (λ pair are. next IsAppScore P (read_key section value_key) _ (at_required IsAppScore value_key.name (signed_number (neg_ℤ highest_app_score) highest_app_score) section (signed_is (neg_ℤ highest_app_score) highest_app_score))
    (λ value is_score.
    let app : App = record { peer = pair.0; about = pair.1; value = value } in
    not_refused P (list_any (are_of_the_same app) earlier) _ app (λ new. one_app_more peers dials earlier app are.0 are.1 is_score new h)))))

pub apps_are : (peers : List PlannedPeer) (dials : List Dial) (ds : Items) → IfOk (read_each (app_in peers dials) [] ds) (AppsAre peers dials)
apps_are peers dials ds = each_is (AppsAre peers dials) (app_in peers dials) (app_is peers dials) [] ds (record { of = All-nil _; about = All-nil _; values = All-nil _; differ = no_pairs (λ x y. are_of_the_same y x ≡ false) })

-- ---- agreements

pub record ExplicitAre (peers : List PlannedPeer) (dials : List Dial) (explicit : List Explicit) : Type 0 where
  pub of : All (λ (line : Explicit). IsOneOf peers line.peer) explicit
  pub about : All (λ (line : Explicit). are_joined dials line.peer line.about ≡ true) explicit
  pub differ : AllPairs (λ x y. are_one_pair y x ≡ false) explicit

one_agreement_more : (peers : List PlannedPeer) (dials : List Dial) (earlier : List Explicit) (line : Explicit) → IsPair peers dials (line.peer, line.about) → list_any (are_one_pair line) earlier ≡ false → ExplicitAre peers dials earlier → ExplicitAre peers dials (earlier ++ line ∷ [])
one_agreement_more peers dials earlier line pair new h = record {
  of = All-push (λ (x : Explicit). IsOneOf peers x.peer) earlier line h.of pair.0;
  about = All-push (λ (x : Explicit). are_joined dials x.peer x.about ≡ true) earlier line h.about pair.1;
  differ = differ_push are_one_pair earlier line h.differ new;
}

agreement_is : (peers : List PlannedPeer) (dials : List Dial) (earlier : List Explicit) (d : Data) → ExplicitAre peers dials earlier → IfOk (agreement_in peers dials earlier d) (λ line. ExplicitAre peers dials (earlier ++ line ∷ []))
unfolding agreement_in
agreement_is peers dials earlier d h =
    let P = λ (line : Explicit). ExplicitAre peers dials (earlier ++ line ∷ []) in
    past P (table_at (element (codes "explicit") (length earlier)) d) _
    (λ section. past P (only kinds.Explicit explicit_keys section) _
    (λ none. next (IsPair peers dials) P (pair_in peers dials section) _ (pair_is peers dials section)
    (λ pair are.
    let line : Explicit = record { peer = pair.0; about = pair.1 } in
    not_refused P (list_any (are_one_pair line) earlier) _ line (λ new. one_agreement_more peers dials earlier line are new h))))

pub explicit_are : (peers : List PlannedPeer) (dials : List Dial) (ds : Items) → IfOk (read_each (agreement_in peers dials) [] ds) (ExplicitAre peers dials)
explicit_are peers dials ds = each_is (ExplicitAre peers dials) (agreement_in peers dials) (agreement_is peers dials) [] ds (record { of = All-nil _; about = All-nil _; differ = no_pairs (λ x y. are_one_pair y x ≡ false) })

-- ---- the script

-- it is on one of the topics, or to a neighbour of the peer, with not too many bytes
record IsFor (topics : List (Topic × TopicParams)) (dials : List Dial) (peer : PeerNo) (what : Act) : Type 0 where
  on : IfSome (topic_of what) (λ topic. has_topic topics topic ≡ true)
  to : IfSome (neighbour_of what) (λ to. are_joined dials peer to ≡ true)
  raw : IfSome (raw_of what) (λ bytes. length bytes ≤ longest_raw)

pub record LinesAre (topics : List (Topic × TopicParams)) (peers : List PlannedPeer) (dials : List Dial) (rounds : ℕ) (lines : List Line) : Type 0 where
  pub of : All (λ (line : Line). IsOneOf peers line.peer) lines
  pub at : All (λ (line : Line). line.at ≤ rounds) lines
  pub on : All (λ (line : Line). IfSome (topic_of line.what) (λ topic. has_topic topics topic ≡ true)) lines
  pub to : All (λ (line : Line). IfSome (neighbour_of line.what) (λ to. are_joined dials line.peer to ≡ true)) lines
  pub raw : All (λ (line : Line). IfSome (raw_of line.what) (λ bytes. length bytes ≤ longest_raw)) lines

topic_at : (topics : List (Topic × TopicParams)) (section : Section) → IfOk (read_key section (topic_key topics)) (λ topic. has_topic topics topic ≡ true)
topic_at topics section = at_required (λ topic. has_topic topics topic ≡ true) (topic_key topics).name (reference names.Topic (topic_named topics)) section (topic_is topics)

link_at : (peers : List PlannedPeer) (dials : List Dial) (peer : PeerNo) (section : Section) → IfOk (read_key section (link_key peers dials peer)) (λ to. are_joined dials peer to ≡ true)
link_at peers dials peer section = at_required (λ to. are_joined dials peer to ≡ true) (link_key peers dials peer).name (neighbour peers dials peer) section (neighbour_is peers dials peer)

raw_at : (section : Section) → IfOk (read_key section raw_key) (λ bytes. length bytes ≤ longest_raw)
raw_at section = at_required (λ bytes. length bytes ≤ longest_raw) raw_key.name (short_hex longest_raw) section (short_hex_is longest_raw)

module _ (topics : List (Topic × TopicParams)) (peers : List PlannedPeer) (dials : List Dial) (section : Section) (peer : PeerNo) where
  on_topic : (what : Topic → Act) → ((topic : Topic) → has_topic topics topic ≡ true → IsFor topics dials peer (what topic)) → IfOk (read_key section (topic_key topics) >>= (λ topic. Ok (what topic))) (IsFor topics dials peer)
  on_topic what h = next (λ topic. has_topic topics topic ≡ true) (IsFor topics dials peer) (read_key section (topic_key topics)) (λ topic. Ok (what topic)) (topic_at topics section) h

  what_is : (verb : Verb) → IfOk (what_in topics peers dials section peer verb) (IsFor topics dials peer)
  unfolding what_in
  what_is verbs.Subscribe = on_topic Subscribe (λ topic h. record { on = h; to = tt; raw = tt })
  what_is verbs.Unsubscribe = on_topic Unsubscribe (λ topic h. record { on = h; to = tt; raw = tt })
  what_is verbs.Publish =
      let P = IsFor topics dials peer in
      next (λ topic. has_topic topics topic ≡ true) P (read_key section (topic_key topics)) _ (topic_at topics section)
      (λ topic h. past P (read_key section hex_key) (λ payload. Ok (Publish topic payload)) (λ payload. record { on = h; to = tt; raw = tt }))
  what_is verbs.Raw =
      let P = IsFor topics dials peer in
      next (λ to. are_joined dials peer to ≡ true) P (read_key section (link_key peers dials peer)) _ (link_at peers dials peer section)
      (λ to h. next (λ bytes. length bytes ≤ longest_raw) P (read_key section raw_key) (λ bytes. Ok (Raw to bytes)) (raw_at section) (λ bytes k. record { on = tt; to = h; raw = k }))
  what_is verbs.HangUp =
      next (λ to. are_joined dials peer to ≡ true) (IsFor topics dials peer) (read_key section (link_key peers dials peer)) (λ to. Ok (HangUp to)) (link_at peers dials peer section)
      (λ to h. record { on = tt; to = h; raw = tt })

one_line_more : (topics : List (Topic × TopicParams)) (peers : List PlannedPeer) (dials : List Dial) (rounds : ℕ) (earlier : List Line) (line : Line) → IsOneOf peers line.peer → line.at ≤ rounds → IsFor topics dials line.peer line.what → LinesAre topics peers dials rounds earlier → LinesAre topics peers dials rounds (earlier ++ line ∷ [])
one_line_more topics peers dials rounds earlier line of at is h = record {
  of = All-push (λ (x : Line). IsOneOf peers x.peer) earlier line h.of of;
  at = All-push (λ (x : Line). x.at ≤ rounds) earlier line h.at at;
  on = All-push (λ (x : Line). IfSome (topic_of x.what) (λ topic. has_topic topics topic ≡ true)) earlier line h.on is.on;
  to = All-push (λ (x : Line). IfSome (neighbour_of x.what) (λ to. are_joined dials x.peer to ≡ true)) earlier line h.to is.to;
  raw = All-push (λ (x : Line). IfSome (raw_of x.what) (λ bytes. length bytes ≤ longest_raw)) earlier line h.raw is.raw;
}

line_is : (topics : List (Topic × TopicParams)) (peers : List PlannedPeer) (dials : List Dial) (rounds : ℕ) (earlier : List Line) (d : Data) → LinesAre topics peers dials rounds earlier → IfOk (line_in topics peers dials rounds earlier d) (λ line. LinesAre topics peers dials rounds (earlier ++ line ∷ []))
unfolding line_in
line_is topics peers dials rounds earlier d h =
    let P = λ (line : Line). LinesAre topics peers dials rounds (earlier ++ line ∷ []) in
    past P (table_at (element (codes "do") (length earlier)) d) _
    (λ section. past P (verb_in section) _
    (λ verb. next (λ n. (0 ≤ n) × (n ≤ rounds)) P (read_key section (at_key rounds)) _ (at_required (λ n. (0 ≤ n) × (n ≤ rounds)) (at_key rounds).name (whole_number 0 rounds) section (number_is 0 rounds))
    (λ round at. next (IsOneOf peers) P (read_key section (peer_key peers)) _ (at_required (IsOneOf peers) (peer_key peers).name (reference names.Peer (peer_named peers)) section (peer_is peers))
    (λ peer of. next (IsFor topics dials peer) P (what_in topics peers dials section peer verb) (λ what. Ok (record { at = round; peer = peer; what = what })) (what_is topics peers dials section peer verb)
    (λ what is. one_line_more topics peers dials rounds earlier (record { at = round; peer = peer; what = what }) of at.1 is h)))))

pub lines_are : (topics : List (Topic × TopicParams)) (peers : List PlannedPeer) (dials : List Dial) (rounds : ℕ) (ds : Items) → IfOk (read_each (line_in topics peers dials rounds) [] ds) (LinesAre topics peers dials rounds)
lines_are topics peers dials rounds ds = each_is (LinesAre topics peers dials rounds) (line_in topics peers dials rounds) (line_is topics peers dials rounds) [] ds (record { of = All-nil _; at = All-nil _; on = All-nil _; to = All-nil _; raw = All-nil _ })
