-- What the rules of meshes, of publishing and of what a heartbeat does to a mesh may give.
use Rattle.std.proofs.Common.{◌≡◌, ℕ, Bool, true, false, not, if◌then◌else◌, List, [], ◌∷◌, ◌++◌, refl}
use Rattle.std.specs.Prelude.{Contains, nat_lt, unwrap_or}
use Rattle.gs_base.specs.declared.names.PeerNo.{PeerNo}
use Rattle.gs_base.specs.declared.names.Topic.{Topic}
use Rattle.gs_base.specs.declared.names.Millis.{Millis}
use Rattle.gs_base.specs.declared.control.Prune.{Prune}
use Rattle.gs_base.specs.declared.rpc.SubOpt.{SubOpt}
use Rattle.gs_base.specs.declared.mark.Mark.TheVariants.{Misbehaviour}
use Rattle.gs_base.specs.Names.{topic_or_empty}
use Rattle.gs_mesh.specs.declared.members.Member.{Member}
use Rattle.gs_mesh.specs.Cuts.{outside, peers_of}
use Rattle.gs_mesh.specs.Peers.{is_among}
use Rattle.gs_mesh.specs.declared.condition.Condition.{Condition}
use Rattle.gs_mesh.specs.declared.condition.Condition.TheVariants.{Few, Many, FewOutbound, Balanced}
use Rattle.gs_mesh.specs.declared.heartbeat.MeshChange.{MeshChange}
use Rattle.gs_mesh.specs.MeshSteps.{condition_of, is_poor, mended, mended_members, mesh_change, not_negative, opportunistic_grafts, opportunistic_grafts_then}
use Rattle.gs_rules.specs.declared.outcome.GraftAnswer.TheVariants.{PassedOver, Refused, Taken}
use Rattle.gs_rules.specs.declared.outcome.GraftRefusal.TheVariants.{Explicit, TooSoon, Negative, Full}
use Rattle.gs_rules.specs.declared.outcome.FanoutUse.TheVariants.{Unused, Kept, Filled}
use Rattle.gs_rules.specs.declared.trace.Entry.{Entry}
use Rattle.gs_rules.specs.declared.trace.Effects.{Effects}
use Rattle.gs_rules.specs.Peers.{Peer, is_explicit}
use Rattle.gs_rules.specs.Tables.{Entries, heartbeats, joined}
use Rattle.gs_rules.specs.Meshes.{backoff, fanout, mesh}
use Rattle.gs_rules.specs.Membership.{candidates, is_negative}
use Rattle.gs_rules.specs.MeshRules.{fanout_publish, graft_effects, graft_rule, is_full_for, left_by, prune_rule, pruned_by, publish_rule, publishing, receivers, refusing, sub_rule, taking}
use Rattle.gs_rules.specs.Scoring.{is_passed_over}
use Rattle.gs_rules.specs.BeatRules.{mending, mesh_beat_rule, scored_members}
use Rattle.gs_rules.specs.Rules.{AnyOf, CutOf, Gives, Rule, listeners, ordinary_listeners, without, no_effects}
use Rattle.gs_rules.specs.Modes.{SaysTheSame, Follows, free}
use Rattle.gs_rules.proofs.Each.{each_passing, of_each}
use Rattle.std.specs.List.{AllByRecursion}
use Rattle.std.proofs.lemmas.List.Elements.{All-contains, All-from_recursion, All-weaker, recursion_from_All}
use Rattle.gs_params.specs.Picks.{IsSample}

-- what holds where nothing is done, and on a topic that is joined of each refusal and of a GRAFT that is taken, holds of
-- the rule of a GRAFT
pub of_a_graft : (P : Effects → Type 0) (p : Peer) (L : Entries) (at : Millis) (q : PeerNo) (t : Topic)
    → P no_effects
    → (joined L t ≡ true → P (refusing p at q t (Misbehaviour q ∷ [])))
    → (joined L t ≡ true → P (refusing p at q t []))
    → (joined L t ≡ true → is_explicit p q ≡ false → nat_lt at.0 (backoff L q t) ≡ false → P (taking q t))
    → P (graft_rule p L at q t)
of_a_graft P p L at q t none blamed refused comes =
    by (joined L t) (is_among (mesh L t) q) (is_explicit p q) (nat_lt at.0 (backoff L q t)) (is_negative p L at.0 q) (is_full_for p L q t) refl refl refl
  where
    by : (joins member explicit soon negative full : Bool) → joined L t ≡ joins → is_explicit p q ≡ explicit → nat_lt at.0 (backoff L q t) ≡ soon
        → P (graft_effects p at q t (if not joins then PassedOver
        else if member then PassedOver
        else if explicit then Refused Explicit
        else if soon then Refused TooSoon
        else if negative then Refused Negative
        else if full then Refused Full
        else Taken))
    by false member explicit soon negative full on ordinary late = none
    by true true explicit soon negative full on ordinary late = none
    by true false true soon negative full on ordinary late = refused on
    by true false false true negative full on ordinary late = blamed on
    by true false false false true full on ordinary late = refused on
    by true false false false false true on ordinary late = refused on
    by true false false false false false on ordinary late = comes on ordinary late

-- what holds where nothing is done, and where the sender is taken out, holds of the rule of a PRUNE
pub of_a_prune : (P : Effects → Type 0) (p : Peer) (L : Entries) (at : Millis) (q : PeerNo) (prune : Prune)
    → P no_effects
    → P (pruned_by p L at q prune)
    → P (prune_rule p L at q prune)
of_a_prune P p L at q prune none out = by (joined L (topic_or_empty prune.topic))
  where
    by : (joins : Bool) → P (if not joins then no_effects else pruned_by p L at q prune)
    by true = out
    by false = none

-- and likewise of who says that it comes onto a topic or leaves it
pub of_a_sub : (P : Effects → Type 0) (p : Peer) (L : Entries) (at : Millis) (q : PeerNo) (sub : SubOpt)
    → P no_effects
    → P (left_by p L at q sub)
    → P (sub_rule p L at q sub)
of_a_sub P p L at q sub none out = by (unwrap_or sub.subscribe false)
  where
    by : (comes : Bool) → P (if comes then no_effects else left_by p L at q sub)
    by true = none
    by false = out

pub was_not : (b : Bool) → not b ≡ true → b ≡ false
was_not true is = absurd cc
was_not false is = refl

-- those that may be in a fanout are not explicit
pub receivers_are_ordinary : (p : Peer) (L : Entries) (at : ℕ) (t : Topic) → AllByRecursion (λ (q : PeerNo). is_explicit p q ≡ false) (receivers p L at t)
receivers_are_ordinary p L at t =
    each_passing (λ (q : PeerNo). is_explicit p q ≡ false) (λ (q : PeerNo). is_explicit p q ≡ false) (λ (q : PeerNo). not (is_passed_over p L at q)) (λ q passes ordinary. ordinary) (ordinary_listeners p L t)
    (each_passing (λ (q : PeerNo). Unit {0}) (λ (q : PeerNo). is_explicit p q ≡ false) (λ (q : PeerNo). not (is_explicit p q)) (λ q passes any. was_not (is_explicit p q) passes) (listeners p L t) (of_each (λ (q : PeerNo). Unit {0}) (λ q. tt) (listeners p L t)))

-- what holds of each candidate holds of each that is chosen
pub each_chosen : (P : PeerNo → Type 0) (k : ℕ) (candidates chosen : List PeerNo) → AllByRecursion P candidates → IsSample k candidates chosen → AllByRecursion P chosen
each_chosen P k candidates chosen all sample =
    recursion_from_All P chosen (All-weaker (Contains candidates) P (λ q has. All-contains P candidates q (All-from_recursion P candidates all) has) chosen sample.members)

-- The fanout of a published payload is unused, kept, or filled by those that get it, none of them explicit. What
-- follows of each way follows of any effects of the rule.
module _ (Q : Type 0) (p : Peer) (L : Entries) (t : Topic) (payload : List ℕ) (e : Entry)
    (unused : (receivers : List PeerNo) → SaysTheSame e.effects (publishing p L t payload receivers Unused) → Q)
    (kept : (receivers : List PeerNo) → SaysTheSame e.effects (publishing p L t payload receivers Kept) → Q)
    (filled : (receivers : List PeerNo) → AllByRecursion (λ (q : PeerNo). is_explicit p q ≡ false) receivers → SaysTheSame e.effects (publishing p L t payload receivers Filled) → Q) where
  by_fanout : (out : List PeerNo) → Follows free (fanout_publish p L e.at t payload out) tt e.effects tt → Q
  by_fanout [] effects =
      filled effects.0
      (each_chosen (λ (q : PeerNo). is_explicit p q ≡ false) p.params.degrees.d (receivers p L e.at.0 t) effects.0 (receivers_are_ordinary p L e.at.0 t) effects.2)
      effects.3.0
  by_fanout (q ∷ qs) effects = kept (without (is_passed_over p L e.at.0) (q ∷ qs)) effects.0

  by_tests : (floods is_joined : Bool)
      → Follows free
      (if floods then Gives (publishing p L t payload (receivers p L e.at.0 t) Unused)
      else if is_joined then Gives (publishing p L t payload (without (is_passed_over p L e.at.0) (mesh L t)) Unused)
      else fanout_publish p L e.at t payload (fanout L t)) tt e.effects tt
      → Q
  by_tests true is_joined effects = unused (receivers p L e.at.0 t) effects.0
  by_tests false true effects = unused (without (is_passed_over p L e.at.0) (mesh L t)) effects.0
  by_tests false false effects = by_fanout (fanout L t) effects

  pub what_is_published : Follows free (publish_rule p L e.at t payload) tt e.effects tt → Q
  what_is_published effects = by_tests p.params.flood_publish (joined L t) effects

-- who goes and who comes in at a heartbeat, where these are kept and these come in
abbrev pub mesh_change_at : Peer → Entries → ℕ → Topic → List PeerNo → List PeerNo → MeshChange
mesh_change_at p L at t kept come = mesh_change (scored_members p L at (mesh L t)) (scored_members p L at (candidates p L at t)) kept come

-- the rule of a mesh that a heartbeat mends, after it is chosen who is kept and who comes in by its number of members
abbrev mends_with : Peer → Entries → Millis → Topic → List PeerNo → List PeerNo → List PeerNo → Rule
mends_with p L at t kept come more = Gives (mending p L at t (mesh_change_at p L at.0 t kept (come ++ more)))

abbrev betters_with : Peer → Entries → Millis → Topic → List Member → List PeerNo → List PeerNo → Rule
betters_with p L at t members kept come =
    opportunistic_grafts_then AnyOf p.params (heartbeats L)
    (mended_members members (scored_members p L at.0 (candidates p L at.0 t)) kept come)
    (scored_members p L at.0 (candidates p L at.0 t))
    come
    (mends_with p L at t kept come)

-- What follows where a heartbeat mends a mesh, whoever is kept and whoever comes in, follows of any entry of that rule.
module _ (Q : Type 0) (p : Peer) (L : Entries) (t : Topic) (e : Entry) (each : (kept come : List PeerNo) → SaysTheSame e.effects (mending p L e.at t (mesh_change_at p L e.at.0 t kept come)) → Q) where
  by_median : (poor : Bool) (most : ℕ) (members others : List Member) (kept come : List PeerNo) (s : Unit {0})
      → Follows free (opportunistic_grafts AnyOf poor most members others (mends_with p L e.at t kept come)) s e.effects tt
      → Q
  by_median true most members others kept come s effects = each kept (come ++ effects.0) effects.3.0
  by_median false most members others kept come s effects = each kept (come ++ []) effects.0

  by_members : (members : List Member) (kept come : List PeerNo) (s : Unit {0}) → Follows free (betters_with p L e.at t members kept come) s e.effects tt → Q
  by_members members kept come s effects =
      let others : List Member = scored_members p L e.at.0 (candidates p L e.at.0 t) in
      by_median (is_poor p.params (heartbeats L) (mended_members members others kept come)) p.params.timing.opportunistic_peers
      (mended_members members others kept come) (outside come others) kept come s effects

  by_condition : (condition : Condition) (members : List Member)
      → Follows free (mended AnyOf CutOf condition p.params.degrees members (scored_members p L e.at.0 (candidates p L e.at.0 t)) (betters_with p L e.at t members)) tt e.effects tt
      → Q
  by_condition Few members effects = by_members members (peers_of members) effects.0 effects.1 effects.3
  by_condition Many members effects = by_members members effects.0 [] effects.1 effects.3
  by_condition FewOutbound members effects = by_members members (peers_of members) effects.0 effects.1 effects.3
  by_condition Balanced members effects = by_members members (peers_of members) [] tt effects

  pub what_is_mended : Follows free (mesh_beat_rule p L e.at t) tt e.effects tt → Q
  what_is_mended effects =
      let members : List Member = not_negative (scored_members p L e.at.0 (mesh L t)) in
      by_condition (condition_of p.params.degrees members) members effects
