-- The parts that make up a score (gossipsub v1.1, Peer Scoring, "The Score Function"): what each counts and weighs.
use Rattle.std.specs.Prelude.{ℕ, ℤ, pos, List}
use Rattle.gs_base.specs.declared.names.PeerNo.{PeerNo}
use Rattle.gs_base.specs.declared.names.Topic.{Topic}
use Rattle.gs_params.specs.declared.params.Factors.{Factors}
use Rattle.gs_score.specs.declared.parts.Part.{Part}
use Rattle.gs_score.specs.declared.parts.ScoreParts.{ScoreParts}
use Rattle.gs_score.specs.declared.parts.TopicParts.{TopicParts}
use Rattle.gs_score.specs.declared.rules.TopicRules.{TopicRules}
use Rattle.gs_score.specs.Millionths.{times}
use Rattle.gs_score.specs.Standings.{Held}
use Rattle.gs_score.specs.Formula.{capped, p1, p2, p3, p3b, p4, p5, p6, p7, score_of, topic_part}
use Rattle.gs_score.specs.Accounts.{topic_sum}
use Rattle.gs_score.specs.Addresses.{app_of, number_with}
use Rattle.gs_score.specs.Histories.{History, Setting, addresses_in, held_by, misbehaviour}

-- what is counted, and an amount that follows from it, times a weight
abbrev pub part_of : ℤ → ℤ → ℤ → Part
part_of counted weight amount = record { counted = counted; weighed = times weight amount }

-- ---- the parts of a topic

abbrev pub time_in_mesh : TopicRules → ℕ → Held → Part
time_in_mesh r now h = part_of (pos (p1 r now h.since)) r.factors.w1 (pos (p1 r now h.since))

abbrev pub first_message_deliveries : TopicRules → Held → Part
first_message_deliveries r h = part_of (pos (p2 h)) r.factors.w2 (pos (p2 h))

-- the counter, and the square of what it lacks
abbrev pub mesh_message_deliveries : TopicRules → ℕ → Held → Part
mesh_message_deliveries r now h = part_of (pos h.near) r.factors.w3 (pos (p3 r now h))

abbrev pub mesh_failure_penalty : TopicRules → Held → Part
mesh_failure_penalty r h = part_of (pos (p3b h)) r.factors.w3b (pos (p3b h))

-- the counter, and its square
abbrev pub invalid_message_deliveries : TopicRules → Held → Part
invalid_message_deliveries r h = part_of (pos h.invalid) r.factors.w4 (pos (p4 h))

abbrev pub topic_parts : TopicRules → ℕ → Held → TopicParts
topic_parts r now h = record {
  time_in_mesh = time_in_mesh r now h;
  first_message_deliveries = first_message_deliveries r h;
  mesh_message_deliveries = mesh_message_deliveries r now h;
  mesh_failure_penalty = mesh_failure_penalty r h;
  invalid_message_deliveries = invalid_message_deliveries r h;
  topic_score = topic_part r now h;
}

-- ---- the parts without a topic

-- from the sum over topics, the score of the application, the neighbours at the address, and misbehaviour
abbrev pub score_parts_of : Factors → ℤ → ℤ → ℕ → ℕ → ScoreParts
score_parts_of f topics app n misbehaviour = record {
  topic_sum = topics;
  capped_topic_sum = capped f.topic_cap topics;
  app_specific_score = part_of app f.w5 (p5 app);
  neighbours_at_address = n;
  ip_colocation_factor = times f.w6 (pos (p6 f.p6_threshold n));
  behaviour_penalty = part_of (pos misbehaviour) f.w7 (pos (p7 misbehaviour));
  score = score_of f topics app n misbehaviour;
}

-- the parts of a neighbour's score at a moment, over these topics
abbrev pub score_parts : Setting → ℕ → History → PeerNo → List Topic → ScoreParts
score_parts setting now H q ts =
    score_parts_of setting.params.factors
    (topic_sum setting.params now (held_by setting.params H q) ts)
    (app_of (addresses_in setting.neighbours H) q)
    (number_with (addresses_in setting.neighbours H) q)
    (misbehaviour setting.params H q)
