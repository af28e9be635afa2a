-- What each part adds to a score, and which adds least.
use Rattle.std.specs.Prelude.{ℕ, ℤ, pos, neg_ℤ, List, [], ◌∷◌, ◌++◌, codes, Option, Some, None, option_copied}
use Rattle.std.specs.List.{flat_map}
use Rattle.std.specs.Int.{int_max, int_min}
use Rattle.gs_base.specs.declared.names.Topic.{Topic}
use Rattle.gs_params.specs.declared.params.Params.{Params}
use Rattle.gs_score.specs.declared.parts.Part.{Part}
use Rattle.gs_score.specs.declared.parts.ScoreParts.{ScoreParts}
use Rattle.gs_score.specs.Accounts.{rules_of}
use Rattle.gs_score.specs.Millionths.{times}
use Rattle.gs_snapshots.specs.declared.loads.Load.{Load as StoredLoad}
use Rattle.gs_snapshots.specs.declared.loads.PartName.{PartName}
use Rattle.gs_snapshots.specs.declared.loads.PartName.TheVariants.{TimeInMesh, FirstMessageDeliveries, MeshMessageDeliveries, MeshFailurePenalty, InvalidMessageDeliveries, AppSpecificScore, IpColocationFactor, BehaviourPenalty}
use Rattle.gs_snapshots.specs.declared.snapshot.OnTopic.{OnTopic}
use Rattle.gs_snapshots.specs.declared.snapshot.Snapshot.{Snapshot}
use Rattle.gs_snapshots.specs.Lowest.{lowest}

-- a part of a score, its topic if it belongs to one, and what it adds to the score
pub record Load : Type 0 where
  pub part : PartName
  pub topic : Option Topic
  pub amount : ℤ

abbrev pub amount_of : Load → ℤ
amount_of x = x.amount

-- the same for a part as it is in memory
abbrev pub topic_in : StoredLoad → Option Topic
topic_in x = option_copied x.topic

abbrev pub load_of : StoredLoad → Load
load_of x = record { part = x.part; topic = topic_in x; amount = x.amount }

-- a bound that the amount of a part of a topic does not exceed, either way
abbrev pub most_weighed : ℤ
most_weighed = pos 1_000_000_000_000_000_000_000_000

abbrev pub limited : ℤ → ℤ
limited z = int_max (neg_ℤ most_weighed) (int_min z most_weighed)

-- what a part of a topic adds, with the weight of the topic and before the cap on all topics
abbrev pub share : Params → Topic → Part → ℤ
share params t part = times (rules_of params t).factors.topic_weight (limited part.weighed)

abbrev pub topic_load : Params → Topic → PartName → Part → Load
topic_load params t name part = record { part = name; topic = Some t; amount = share params t part }

abbrev pub loads_on_topic : Params → OnTopic → List Load
loads_on_topic params x =
    topic_load params x.topic TimeInMesh x.parts.time_in_mesh
    ∷ topic_load params x.topic FirstMessageDeliveries x.parts.first_message_deliveries
    ∷ topic_load params x.topic MeshMessageDeliveries x.parts.mesh_message_deliveries
    ∷ topic_load params x.topic MeshFailurePenalty x.parts.mesh_failure_penalty
    ∷ topic_load params x.topic InvalidMessageDeliveries x.parts.invalid_message_deliveries
    ∷ []

abbrev pub plain_load : PartName → ℤ → Load
plain_load name amount = record { part = name; topic = None; amount = amount }

abbrev pub loads_of_no_topic : ScoreParts → List Load
loads_of_no_topic parts =
    plain_load AppSpecificScore parts.app_specific_score.weighed
    ∷ plain_load IpColocationFactor parts.ip_colocation_factor
    ∷ plain_load BehaviourPenalty parts.behaviour_penalty.weighed
    ∷ []

-- all parts, in the order of the lines of scores
abbrev pub loads : Params → Snapshot → List Load
loads params s = flat_map (loads_on_topic params) s.topics ++ loads_of_no_topic s.parts

-- the part that adds least: among equals, the first
abbrev pub heaviest : Params → Snapshot → Option Load
heaviest params s = lowest amount_of (loads params s)

-- the word of a part, which is its key in the lines of scores
abbrev pub part_word : PartName → List ℕ
part_word TimeInMesh = codes "time_in_mesh"
part_word FirstMessageDeliveries = codes "first_message_deliveries"
part_word MeshMessageDeliveries = codes "mesh_message_deliveries"
part_word MeshFailurePenalty = codes "mesh_failure_penalty"
part_word InvalidMessageDeliveries = codes "invalid_message_deliveries"
part_word AppSpecificScore = codes "app_specific_score"
part_word IpColocationFactor = codes "ip_colocation_factor"
part_word BehaviourPenalty = codes "behaviour_penalty"
