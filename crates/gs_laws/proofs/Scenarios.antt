-- Scenarios that differ at most in how they are run have alike plans, and so one report.
use Rattle.std.proofs.Common.{◌≡◌, ℕ, Bool, true, false, if◌then◌else◌, List, [], ◌++◌, Option, Some, Result, Ok, Err, Ordering, Less, Equal, Greater, nat_cmp, refl, sym, ap, ap₂, subst, ◌∙◌, true≢false}
use Rattle.std.specs.Cmp.Lexicographic.{slice_cmp}
use Rattle.std.specs.Ordering.{match_ordering}
use Rattle.std.specs.FinMap.{nat_cmp-IsAntisymmetric, slice_cmp-IsAntisymmetric}
use Rattle.toml.specs.Data.{Data, Members, no_members, member, get_member}
use Rattle.gs_plan.specs.declared.limits.Limits.{Limits}
use Rattle.gs_plan.specs.declared.limits.Limits.TheVariants.{Large}
use Rattle.gs_plan.specs.declared.plan.Plan.{Plan}
use Rattle.gs_scenario.specs.declared.fault.ScenarioFault.{ScenarioFault}
use Rattle.gs_scenario.specs.declared.scenario.tables.TableKind.TheVariants as kinds
use Rattle.gs_scenario.specs.Keys.{◌>>=◌, Key, is_one_of, only, read_each, read_key}
use Rattle.gs_scenario.specs.Kinds.{section_at}
use Rattle.gs_scenario.specs.ParamsOf.{shared_in, params_of}
use Rattle.gs_scenario.specs.PlanOf.{Top, agreement_in, app_in, apps_key, capacity_key, dial_in, dials_key, explicit_key, line_in, params_key, peer_in, peers_key, plan_in, plan_of, plan_of_document, round_ms_key, rounds_key, script_key, seed_key, top_in, top_keys, topic_in, topics_key, workers_key}
use Rattle.gs_laws.specs.Runs.{AreAlike, however_run}
use Rattle.gs_laws.specs.Scenarios.{DifferInRunning, TextsAreOne, but_for, running_keys}
use Rattle.gs_laws.proofs.LargeLimits.{described_within_large}
use Rattle.gs_laws.proofs.Reports.{reports_one}

-- ---- what a table holds but for some keys

held_but_for : (keys : List (List ℕ)) (key : List ℕ) (held : Members) → is_one_of keys key ≡ false → get_member key (but_for keys held) ≡ get_member key held
held_but_for keys key no_members out = refl
held_but_for keys key (member name d rest) out = by (is_one_of keys name) refl (slice_cmp nat_cmp key name) refl (held_but_for keys key rest out)
  where
    by : (is_in : Bool) → is_one_of keys name ≡ is_in → (order : Ordering) → slice_cmp nat_cmp key name ≡ order → get_member key (but_for keys rest) ≡ get_member key rest → get_member key (if is_in then but_for keys rest else member name d (but_for keys rest)) ≡ match_ordering order (get_member key rest) (Some d) (get_member key rest)
    by true is Less apart again = again
    by true is Equal same again =
        absurd (true≢false (sym is ∙ ap (is_one_of keys) (sym (slice_cmp-IsAntisymmetric nat_cmp-IsAntisymmetric key name same)) ∙ out))
    by true is Greater apart again = again
    by false is order there again =
        ap₂ (λ (o : Ordering) (found : Option Data). match_ordering o found (Some d) found) there again

-- ---- the top table

-- what the top table holds, but for how the scenario is run
abbrev but_running : Top → Top
but_running top = record top { workers = 1; capacity = 1 }

abbrev Read : Type 0 → Type 0
Read A = Result A ScenarioFault

abbrev given_or : {A : Type 0} → A → Read A → A
given_or d (Ok x) = x
given_or d (Err fault) = d

-- what two equal results give is equal
pub got : {A : Type 0} (x y : A) → ◌≡◌ {A = Read A} (Ok x) (Ok y) → x ≡ y
got x y is = ap (given_or x) is

-- two results: what they give is alike, if both give something
abbrev BothAlike : Read Top → Read Top → Type 0
BothAlike x y = (t u : Top) → x ≡ Ok t → y ≡ Ok u → but_running t ≡ but_running u

-- whatever is read first
then_any : {A : Type 0} (x y : Read A) (f g : A → Read Top) → ((v w : A) → BothAlike (f v) (g w)) → BothAlike (x >>= f) (y >>= g)
then_any (Ok v) (Ok w) f g alike = alike v w
then_any (Ok v) (Err fault) f g alike = λ t u is is'. absurd cc
then_any (Err fault) y f g alike = λ t u is is'. absurd cc

-- where the same is read first
then_same : {A : Type 0} (x y : Read A) (f g : A → Read Top) → x ≡ y → ((v : A) → BothAlike (f v) (g v)) → BothAlike (x >>= f) (y >>= g)
then_same x y f g same alike = subst (λ (z : Read _). BothAlike (x >>= f) (z >>= g)) same (by x)
  where
    by : (z : Read _) → BothAlike (z >>= f) (z >>= g)
    by (Ok v) = alike v
    by (Err fault) = λ t u is is'. absurd cc

abbrev read_at : {A : Type 0} → Members → Key A → Read A
read_at members key = read_key (record { path = []; members = members }) key

module _ (limits : Limits) (text other : List ℕ) (differ : DifferInRunning text other) where
  -- where a key is read first that is another
  then_read : {A : Type 0} (key : Key A) (f g : A → Read Top) → is_one_of running_keys key.name ≡ false → ((v : A) → BothAlike (f v) (g v)) → BothAlike (read_at differ.members key >>= f) (read_at differ.others key >>= g)
  then_read key f g out alike =
      let held : get_member key.name differ.members ≡ get_member key.name differ.others =
      sym (held_but_for running_keys key.name differ.members out) ∙ ap (get_member key.name) differ.same ∙ held_but_for running_keys key.name differ.others out in
      then_same (read_at differ.members key) (read_at differ.others key) f g (ap (key.reads ([] ++ key.name)) held) alike

  tops_alike : BothAlike (top_in limits (record { path = []; members = differ.members })) (top_in limits (record { path = []; members = differ.others }))
  unfolding top_in
  tops_alike =
      then_any (only kinds.Top top_keys (record { path = []; members = differ.members })) (only kinds.Top top_keys (record { path = []; members = differ.others })) _ _ (λ mine theirs.
      then_read round_ms_key _ _ refl (λ round_ms.
      then_read rounds_key _ _ refl (λ rounds.
      then_any (read_at differ.members workers_key) (read_at differ.others workers_key) _ _ (λ workers workers'.
      then_any (read_at differ.members capacity_key) (read_at differ.others capacity_key) _ _ (λ capacity capacity'.
      then_read seed_key _ _ refl (λ seed.
      then_read params_key _ _ refl (λ params.
      then_read topics_key _ _ refl (λ topics.
      then_read (peers_key limits) _ _ refl (λ peers.
      then_read dials_key _ _ refl (λ dials.
      then_read apps_key _ _ refl (λ apps.
      then_read explicit_key _ _ refl (λ explicit.
      then_read script_key _ _ refl (λ script.
      λ t u is is'. sym (ap but_running (got _ t is)) ∙ ap but_running (got _ u is'))))))))))))))

-- ---- the plan

-- the plan by the top table, but for how it is run, and by how it is run
rest_of : Top → ℕ → ℕ → Read Plan
rest_of top workers capacity = do
  shared ← shared_in top.round_ms (section_at params_key.name top.params)
  topics ← read_each topic_in [] top.topics
  peers ← read_each (peer_in top.round_ms) [] top.peers
  dials ← read_each (dial_in peers) [] top.dials
  apps ← read_each (app_in peers dials) [] top.apps
  explicit ← read_each (agreement_in peers dials) [] top.explicit
  script ← read_each (line_in topics peers dials top.rounds) [] top.script
  params ← params_of shared topics
  Ok (record {
    round_ms = top.round_ms;
    rounds = top.rounds;
    workers = workers;
    capacity = capacity;
    seed = top.seed;
    params = params;
    peers = peers;
    dials = dials;
    apps = apps;
    explicit = explicit;
    script = script;
  })

-- a plan but for how it is run, where there is one
abbrev but_however : Read Plan → Read Plan
but_however (Ok plan) = Ok (however_run plan)
but_however (Err fault) = Err fault

then_alike : {A : Type 0} (x : Read A) (f g : A → Read Plan) → ((v : A) → but_however (f v) ≡ but_however (g v)) → but_however (x >>= f) ≡ but_however (x >>= g)
then_alike (Ok v) f g alike = alike v
then_alike (Err fault) f g alike = refl

rests_alike : (top : Top) (workers other capacity another : ℕ) → but_however (rest_of top workers capacity) ≡ but_however (rest_of top other another)
unfolding rest_of
rests_alike top workers other capacity another =
    then_alike (shared_in top.round_ms (section_at params_key.name top.params)) _ _ (λ shared.
    then_alike (read_each topic_in [] top.topics) _ _ (λ topics.
    then_alike (read_each (peer_in top.round_ms) [] top.peers) _ _ (λ peers.
    then_alike (read_each (dial_in peers) [] top.dials) _ _ (λ dials.
    then_alike (read_each (app_in peers dials) [] top.apps) _ _ (λ apps.
    then_alike (read_each (agreement_in peers dials) [] top.explicit) _ _ (λ explicit.
    then_alike (read_each (line_in topics peers dials top.rounds) [] top.script) _ _ (λ script.
    then_alike (params_of shared topics) _ _ (λ params. refl))))))))

-- the top table of a plan, and the plan by that
record IsMadeOf (limits : Limits) (members : Members) (plan : Plan) : Type 0 where
  top : Top
  top_is : top_in limits (record { path = []; members = members }) ≡ Ok top
  plan_is : rest_of (but_running top) top.workers top.capacity ≡ Ok plan

made_of : (limits : Limits) (members : Members) (plan : Plan) → plan_in limits members ≡ Ok plan → IsMadeOf limits members plan
unfolding plan_in rest_of
made_of limits members plan is = by (top_in limits (record { path = []; members = members })) refl is
  where
    by : (found : Read Top) → top_in limits (record { path = []; members = members }) ≡ found → (found >>= (λ top. rest_of (but_running top) top.workers top.capacity)) ≡ Ok plan → IsMadeOf limits members plan
    by (Ok top) top_is plan_is = record { top = top; top_is = top_is; plan_is = plan_is }
    by (Err fault) top_is plan_is = absurd cc

pub plans_alike : (limits others : Limits) (text other : List ℕ) (plan another : Plan) → DifferInRunning text other → plan_of limits text ≡ Ok plan → plan_of others other ≡ Ok another → AreAlike plan another
plans_alike limits others text other plan another differ is is' =
    let a = made_of Large differ.members plan (sym (ap (plan_of_document Large) differ.is) ∙ described_within_large limits text plan is) in
    let b = made_of Large differ.others another (sym (ap (plan_of_document Large) differ.other_is) ∙ described_within_large others other another is') in
    let tops : but_running a.top ≡ but_running b.top = tops_alike Large text other differ a.top b.top a.top_is b.top_is in
    let mine : but_however (rest_of (but_running b.top) a.top.workers a.top.capacity) ≡ Ok (however_run plan) =
    ap but_however (subst (λ (top : Top). rest_of top a.top.workers a.top.capacity ≡ Ok plan) tops a.plan_is) in
    got _ _ (sym mine ∙ rests_alike (but_running b.top) a.top.workers b.top.workers a.top.capacity b.top.capacity ∙ ap but_however b.plan_is)

pub texts_one : TextsAreOne
texts_one limits others bytes more plan other report another differ mine theirs is is' =
    let described : plan_of limits bytes ≡ Ok plan = subst (λ (text : List ℕ). plan_of limits text ≡ Ok plan) mine.whole mine.described in
    let described' : plan_of others more ≡ Ok other = subst (λ (text : List ℕ). plan_of others text ≡ Ok other) theirs.whole theirs.described in
    (reports_one plan other report another (plans_alike limits others bytes more plan other differ described described') is is').text
