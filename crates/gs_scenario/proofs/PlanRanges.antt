-- A plan that is read is in range.
use Rattle.std.proofs.Common.{◌≡◌, ℕ, ◌≤◌, ◌<◌, ◌-◌, ◌^◌, ◌%◌, true, List, [], length, Option, Some, None, Result, Ok, Err, refl, subst, arith}
use Rattle.std.specs.Prelude.{IfOk, IfSome, All}
use Rattle.toml.specs.Data.{Members}
use Rattle.toml.specs.Parse.{parse_document}
use Rattle.gs_base.specs.declared.names.Topic.{Topic}
use Rattle.gs_params.specs.Params.{checked, default_timing}
use Rattle.gs_plan.specs.Plans.{IsInRange, IsWithin, has_topic, highest_capacity, longest_round, most_planned_topics, most_rounds, most_workers, topic_of}
use Rattle.gs_plan.specs.Limits.{most_peers}
use Rattle.gs_plan.specs.declared.limits.Limits.{Limits}
use Rattle.gs_plan.specs.declared.limits.Limits.TheVariants.{Standard, Large}
use Rattle.gs_params.specs.declared.params.Params.{Params}
use Rattle.gs_params.specs.declared.params.Timing.{Timing}
use Rattle.gs_params.specs.declared.topic_params.TopicParams.{TopicParams}
use Rattle.gs_params.specs.declared.param_fault.ParamFault.{ParamFault}
use Rattle.gs_plan.specs.declared.plan.App.{App}
use Rattle.gs_plan.specs.declared.plan.Dial.{Dial}
use Rattle.gs_plan.specs.declared.plan.Explicit.{Explicit}
use Rattle.gs_plan.specs.declared.plan.Line.{Line}
use Rattle.gs_plan.specs.declared.plan.Plan.{Plan}
use Rattle.gs_plan.specs.declared.plan.PlannedPeer.{PlannedPeer}
use Rattle.gs_scenario.specs.declared.fault.ScenarioFault.{ScenarioFault}
use Rattle.gs_scenario.specs.declared.scenario.params.Shared.{Shared}
use Rattle.gs_scenario.specs.declared.scenario.params.Times.{Times}
use Rattle.gs_scenario.specs.declared.scenario.tables.TableKind.TheVariants as kinds
use Rattle.gs_scenario.specs.Keys.{Section, only, required, read_key, read_each}
use Rattle.gs_scenario.specs.Kinds.{whole_number, list_of, section_at}
use Rattle.gs_scenario.specs.ParamsOf.{highest_number, heartbeat_ms_key, decay_ms_key, fanout_ttl_ms_key, seen_ttl_ms_key, iwant_followup_ms_key, prune_backoff_s_key, unsubscribe_backoff_s_key, degrees_in, thresholds_in, factors_in, times_in, counts_in, timing_in, flood_publish_key, shared_names, shared_in, params_of, or_refuse_params, with_topics}
use Rattle.gs_scenario.specs.PlanOf.{Top, round_ms_key, rounds_key, workers_key, capacity_key, seed_key, params_key, topics_key, peers_key, dials_key, apps_key, explicit_key, script_key, top_keys, top_in, topic_in, peer_in, dial_in, app_in, agreement_in, line_in, plan_in, plan_of_document, plan_of}
use Rattle.gs_scenario.specs.Refusal.{GivesSame, item_count}
use Rattle.gs_scenario.proofs.Checked.{same_of_checked, checked_again}
use Rattle.gs_scenario.proofs.Ranges.{next, past, at_required, number_is, list_is, multiple_is}
use Rattle.gs_scenario.proofs.ElementRanges.{PeersAre, peers_are, TopicsDiffer, TopicsAre, topics_are, DialsAre, dials_are, AppsAre, apps_are, ExplicitAre, explicit_are, LinesAre, lines_are}

-- ---- parameters

-- the heartbeat and the decay take whole rounds
abbrev TakeRounds : ℕ → Timing → Type 0
TakeRounds round_ms timing = (timing.heartbeat_ms % round_ms ≡ 0) × (timing.decay_ms % round_ms ≡ 0)

abbrev TimesTakeRounds : ℕ → Times → Type 0
TimesTakeRounds round_ms times = (times.heartbeat_ms % round_ms ≡ 0) × (times.decay_ms % round_ms ≡ 0)

both : {A B : Type 0} → A → B → A × B
both x y = (x, y)

times_are : (round_ms : ℕ) (section : Section) → IfOk (times_in round_ms section) (TimesTakeRounds round_ms)
unfolding times_in
times_are round_ms section =
    let P = TimesTakeRounds round_ms in
    next (λ n. n % round_ms ≡ 0) P (read_key section (heartbeat_ms_key round_ms)) _ (multiple_is round_ms (heartbeat_ms_key round_ms).name (whole_number 0 highest_number) default_timing.heartbeat_ms section)
    (λ heartbeat_ms h. next (λ n. n % round_ms ≡ 0) P (read_key section (decay_ms_key round_ms)) _ (multiple_is round_ms (decay_ms_key round_ms).name (whole_number 0 highest_number) default_timing.decay_ms section)
    (λ decay_ms k.
    past P (read_key section fanout_ttl_ms_key) _ (λ fanout_ttl_ms.
    past P (read_key section seen_ttl_ms_key) _ (λ seen_ttl_ms.
    past P (read_key section iwant_followup_ms_key) _ (λ iwant_followup_ms.
    past P (read_key section prune_backoff_s_key) _ (λ prune_backoff_s.
    past P (read_key section unsubscribe_backoff_s_key) _ (λ unsubscribe_backoff_s. both h k)))))))

timing_is : (round_ms : ℕ) (section : Section) → IfOk (timing_in round_ms section) (TakeRounds round_ms)
unfolding timing_in
timing_is round_ms section =
    let P = TakeRounds round_ms in
    next (TimesTakeRounds round_ms) P (times_in round_ms section) _ (times_are round_ms section)
    (λ times h. past P (counts_in section) _ (λ counts. h))

shared_are : (round_ms : ℕ) (section : Section) → IfOk (shared_in round_ms section) (λ shared. TakeRounds round_ms shared.timing)
unfolding shared_in
shared_are round_ms section =
    let P = λ (shared : Shared). TakeRounds round_ms shared.timing in
    past P (only kinds.Params shared_names section) _
    (λ none. past P (degrees_in section) _
    (λ degrees. past P (thresholds_in section) _
    (λ thresholds. past P (factors_in section) _
    (λ factors. next (TakeRounds round_ms) P (timing_in round_ms section) _ (timing_is round_ms section)
    (λ timing h. past P (read_key section flood_publish_key) _ (λ flood_publish. h))))))

-- these parameters, which passed their checks
abbrev AreChecked : Params → Params → Type 0
AreChecked given p = (given ≡ p) × (checked p ≡ Ok p)

checked_are : (given : Params) (r : Result Params ParamFault) → checked given ≡ r → IfOk (or_refuse_params r) (AreChecked given)
checked_are given (Ok p) e = (same_of_checked given p e, checked_again given p e)
checked_are given (Err fault) e = tt

params_are : (shared : Shared) (topics : List (Topic × TopicParams)) → IfOk (params_of shared topics) (AreChecked (with_topics shared topics))
unfolding params_of
params_are shared topics = checked_are (with_topics shared topics) (checked (with_topics shared topics)) refl

-- ---- the top table

record TopIsInRange (limits : Limits) (top : Top) : Type 0 where
  round_ms : (1 ≤ top.round_ms) × (top.round_ms ≤ longest_round)
  rounds : (1 ≤ top.rounds) × (top.rounds ≤ most_rounds)
  workers : (1 ≤ top.workers) × (top.workers ≤ most_workers)
  capacity : (1 ≤ top.capacity) × (top.capacity ≤ highest_capacity)
  seed : top.seed < 2 ^ 63
  topics : (1 ≤ item_count top.topics) × (item_count top.topics ≤ most_planned_topics)
  peers : (1 ≤ item_count top.peers) × (item_count top.peers ≤ most_peers limits)

number_at : (name : List ℕ) (low high : ℕ) (section : Section) → IfOk (read_key section (required name (whole_number low high))) (λ n. (low ≤ n) × (n ≤ high))
number_at name low high section = at_required (λ n. (low ≤ n) × (n ≤ high)) name (whole_number low high) section (number_is low high)

list_at : (name : List ℕ) (low high : ℕ) (section : Section) → IfOk (read_key section (required name (list_of low high))) (λ ds. (low ≤ item_count ds) × (item_count ds ≤ high))
list_at name low high section = at_required (λ ds. (low ≤ item_count ds) × (item_count ds ≤ high)) name (list_of low high) section (list_is low high)

top_from : (limits : Limits) (top : Top) → (1 ≤ top.round_ms) × (top.round_ms ≤ longest_round) → (1 ≤ top.rounds) × (top.rounds ≤ most_rounds) → (1 ≤ top.workers) × (top.workers ≤ most_workers) → (1 ≤ top.capacity) × (top.capacity ≤ highest_capacity) → (0 ≤ top.seed) × (top.seed ≤ 2 ^ 63 - 1) → (1 ≤ item_count top.topics) × (item_count top.topics ≤ most_planned_topics) → (1 ≤ item_count top.peers) × (item_count top.peers ≤ most_peers limits) → TopIsInRange limits top
top_from limits top round_ms rounds workers capacity seed topics peers = record {
  round_ms = round_ms;
  rounds = rounds;
  workers = workers;
  capacity = capacity;
  seed = omega (arith, seed.1);
  topics = topics;
  peers = peers;
}

top_is : (limits : Limits) (section : Section) → IfOk (top_in limits section) (TopIsInRange limits)
unfolding top_in
top_is limits section =
    let P = TopIsInRange limits in
    past P (only kinds.Top top_keys section) _ (λ none.
    next (λ n. (1 ≤ n) × (n ≤ longest_round)) P (read_key section round_ms_key) _ (number_at round_ms_key.name 1 longest_round section) (λ round_ms is_time.
    next (λ n. (1 ≤ n) × (n ≤ most_rounds)) P (read_key section rounds_key) _ (number_at rounds_key.name 1 most_rounds section) (λ rounds are_rounds.
    next (λ n. (1 ≤ n) × (n ≤ most_workers)) P (read_key section workers_key) _ (number_at workers_key.name 1 most_workers section) (λ workers are_workers.
    next (λ n. (1 ≤ n) × (n ≤ highest_capacity)) P (read_key section capacity_key) _ (number_at capacity_key.name 1 highest_capacity section) (λ capacity is_capacity.
    next (λ n. (0 ≤ n) × (n ≤ 2 ^ 63 - 1)) P (read_key section seed_key) _ (number_at seed_key.name 0 (2 ^ 63 - 1) section) (λ seed is_seed.
    past P (read_key section params_key) _ (λ params.
    next (λ ds. (1 ≤ item_count ds) × (item_count ds ≤ most_planned_topics)) P (read_key section topics_key) _ (list_at topics_key.name 1 most_planned_topics section) (λ topics are_topics.
    next (λ ds. (1 ≤ item_count ds) × (item_count ds ≤ most_peers limits)) P (read_key section (peers_key limits)) _ (list_at (peers_key limits).name 1 (most_peers limits) section) (λ peers are_peers.
    past P (read_key section dials_key) _ (λ dials.
    past P (read_key section apps_key) _ (λ apps.
    past P (read_key section explicit_key) _ (λ explicit.
    past P (read_key section script_key) _ (λ script.
    top_from limits (record { round_ms = round_ms; rounds = rounds; workers = workers; capacity = capacity; seed = seed; params = params; topics = topics; peers = peers; dials = dials; apps = apps; explicit = explicit; script = script }) is_time are_rounds are_workers is_capacity is_seed are_topics are_peers)))))))))))))

-- ---- the plan

module _ (limits : Limits) (top : Top) (shared : Shared) (topics : List (Topic × TopicParams)) (peers : List PlannedPeer) (dials : List Dial) (apps : List App) (explicit : List Explicit) (script : List Line) (params : Params) where
  all_in_range : TopIsInRange limits top → TakeRounds top.round_ms shared.timing → TopicsAre (item_count top.topics) topics → PeersAre top.round_ms (item_count top.peers) peers → DialsAre peers dials → AppsAre peers dials apps → ExplicitAre peers dials explicit → LinesAre topics peers dials top.rounds script → AreChecked (with_topics shared topics) params → IsWithin limits (record { round_ms = top.round_ms; rounds = top.rounds; workers = top.workers; capacity = top.capacity; seed = top.seed; params = params; peers = peers; dials = dials; apps = apps; explicit = explicit; script = script })
  all_in_range t s m n d a e l c = record {
    some_rounds = t.rounds.0;
    rounds = t.rounds.1;
    some_time = t.round_ms.0;
    round_ms = t.round_ms.1;
    some_workers = t.workers.0;
    workers = t.workers.1;
    some_capacity = t.capacity.0;
    capacity = t.capacity.1;
    seed = t.seed;
    some_peers = omega (arith, n.count, t.peers.0);
    peers = omega (arith, n.count, t.peers.1);
    some_topics = subst (λ (p : Params). 1 ≤ length p.topics) c.0 (omega (arith, m.0, t.topics.0));
    topics = subst (λ (p : Params). length p.topics ≤ most_planned_topics) c.0 (omega (arith, m.0, t.topics.1));
    names_differ = n.given.differ;
    topics_differ = subst (λ (p : Params). TopicsDiffer p.topics) c.0 m.1;
    params = c.1;
    heartbeat = subst (λ (p : Params). p.timing.heartbeat_ms % top.round_ms ≡ 0) c.0 s.0;
    decay = subst (λ (p : Params). p.timing.decay_ms % top.round_ms ≡ 0) c.0 s.1;
    phases = n.given.phases;
    phases_take_rounds = n.given.take_rounds;
    dials_from = d.from;
    dials_to = d.to;
    dials_to_others = d.others;
    dials_differ = d.differ;
    apps_of = a.of;
    apps_about = a.about;
    app_values = a.values;
    apps_differ = a.differ;
    explicit_of = e.of;
    explicit_about = e.about;
    explicit_differ = e.differ;
    lines_of = l.of;
    lines_at = l.at;
    lines_on = subst (λ (p : Params). All (λ (line : Line). IfSome (topic_of line.what) (λ topic. has_topic p.topics topic ≡ true)) script) c.0 l.on;
    lines_to = l.to;
    lines_raw = l.raw;
  }

plan_is : (limits : Limits) (all : Members) → IfOk (plan_in limits all) (IsWithin limits)
unfolding plan_in
plan_is limits all =
    let P = IsWithin limits in
    next (TopIsInRange limits) P (top_in limits (record { path = []; members = all })) _ (top_is limits (record { path = []; members = all })) (λ top t.
    next (λ shared. TakeRounds top.round_ms shared.timing) P (shared_in top.round_ms (section_at params_key.name top.params)) _ (shared_are top.round_ms (section_at params_key.name top.params)) (λ shared s.
    next (TopicsAre (item_count top.topics)) P (read_each topic_in [] top.topics) _ (topics_are top.topics) (λ topics m.
    next (PeersAre top.round_ms (item_count top.peers)) P (read_each (peer_in top.round_ms) [] top.peers) _ (peers_are top.round_ms top.peers) (λ peers n.
    next (DialsAre peers) P (read_each (dial_in peers) [] top.dials) _ (dials_are peers top.dials) (λ dials d.
    next (AppsAre peers dials) P (read_each (app_in peers dials) [] top.apps) _ (apps_are peers dials top.apps) (λ apps a.
    next (ExplicitAre peers dials) P (read_each (agreement_in peers dials) [] top.explicit) _ (explicit_are peers dials top.explicit) (λ explicit e.
    next (LinesAre topics peers dials top.rounds) P (read_each (line_in topics peers dials top.rounds) [] top.script) _ (lines_are topics peers dials top.rounds top.script) (λ script l.
    next (AreChecked (with_topics shared topics)) P (params_of shared topics) _ (params_are shared topics) (λ params c.
    all_in_range limits top shared topics peers dials apps explicit script params t s m n d a e l c)))))))))

document_is : (limits : Limits) (found : Option Members) → IfOk (plan_of_document limits found) (IsWithin limits)
document_is limits None = tt
document_is limits (Some all) = plan_is limits all

given_is : (P : Plan → Type 0) (said given : Result Plan ScenarioFault) → GivesSame given said → IfOk said P → IfOk given P
given_is P said (Ok plan) e h = rw e at h
given_is P said (Err fault) e h = tt

-- what is given as the plan of a text is within the limits
pub plan_within : (limits : Limits) (text : List ℕ) (given : Result Plan ScenarioFault) → GivesSame given (plan_of limits text) → IfOk given (IsWithin limits)
plan_within limits text given e = given_is (IsWithin limits) (plan_of limits text) given e (document_is limits (parse_document text))

-- what is within any limits is within the large ones
is_in_range : (limits : Limits) (plan : Plan) → IsWithin limits plan → IsInRange plan
is_in_range Large plan within = within
is_in_range Standard plan within = record {
  some_rounds = within.some_rounds;
  rounds = within.rounds;
  some_time = within.some_time;
  round_ms = within.round_ms;
  some_workers = within.some_workers;
  workers = within.workers;
  some_capacity = within.some_capacity;
  capacity = within.capacity;
  seed = within.seed;
  some_peers = within.some_peers;
  peers = omega (arith, within.peers);
  some_topics = within.some_topics;
  topics = within.topics;
  names_differ = within.names_differ;
  phases = within.phases;
  phases_take_rounds = within.phases_take_rounds;
  topics_differ = within.topics_differ;
  params = within.params;
  heartbeat = within.heartbeat;
  decay = within.decay;
  dials_from = within.dials_from;
  dials_to = within.dials_to;
  dials_to_others = within.dials_to_others;
  dials_differ = within.dials_differ;
  apps_of = within.apps_of;
  apps_about = within.apps_about;
  app_values = within.app_values;
  apps_differ = within.apps_differ;
  explicit_of = within.explicit_of;
  explicit_about = within.explicit_about;
  explicit_differ = within.explicit_differ;
  lines_of = within.lines_of;
  lines_at = within.lines_at;
  lines_on = within.lines_on;
  lines_to = within.lines_to;
  lines_raw = within.lines_raw;
}

all_are_in_range : (limits : Limits) (given : Result Plan ScenarioFault) → IfOk given (IsWithin limits) → IfOk given IsInRange
all_are_in_range limits (Ok plan) within = is_in_range limits plan within
all_are_in_range limits (Err fault) within = tt

-- and so it is in range
pub plan_in_range : (limits : Limits) (text : List ℕ) (given : Result Plan ScenarioFault) → GivesSame given (plan_of limits text) → IfOk given IsInRange
plan_in_range limits text given e = all_are_in_range limits given (plan_within limits text given e)
