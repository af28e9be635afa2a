use Rattle.std.proofs.Common.{refl}
use Rattle.gs_rules.proofs.MeshTopics.{fanout_topics_ascend, gossip_topics_ascend}
use Rattle.gs_rules.proofs.Owed.{beat_owes, owed_at_beat, owed_behind, owed_within}
use Rattle.gs_rules.proofs.Topics.{own_ascend}
use Rattle.gs_rules.proofs.laws.a_heartbeat_mends_gossips_and_ends.Goals as goal

pub returns-clause-begins : goal.returns-clause-begins
returns-clause-begins c = owed_at_beat

pub returns-clause-within : goal.returns-clause-within
returns-clause-within c = λ p entries e first second rest groups due none. owed_within p entries e first second rest groups due none

pub returns-clause-behind : goal.returns-clause-behind
returns-clause-behind c = λ p entries e last groups due none. owed_behind p entries e last groups due none

pub returns-clause-meshes : goal.returns-clause-meshes
returns-clause-meshes c = λ p entries. refl

pub returns-clause-fanouts : goal.returns-clause-fanouts
returns-clause-fanouts c = λ p entries at. refl

pub returns-clause-gossips : goal.returns-clause-gossips
returns-clause-gossips c = beat_owes

pub returns-clause-ascend : goal.returns-clause-ascend
returns-clause-ascend c = λ p entries. (own_ascend entries, fanout_topics_ascend entries, gossip_topics_ascend p entries)
