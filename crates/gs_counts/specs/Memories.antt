-- What is known about a peer after a trace.
use Rattle.std.specs.Prelude.{◌≡◌}
use Rattle.gs_base.specs.declared.names.MsgId.{MsgId}
use Rattle.gs_rules.specs.Tables.{Entries}
use Rattle.gs_counts.specs.declared.memory.Memory.{Memory}
use Rattle.gs_counts.specs.Fates.{last_ignored, was_ignored}
use Rattle.gs_counts.specs.Meshes.{members}
use Rattle.gs_counts.specs.Topics.{subscribed}

-- The memory says what the trace says.
pub record Remembers (memory : Memory) (L : Entries) : Type 0 where
  pub topics : memory.meshes.topics.items ≡ subscribed L
  pub members : memory.meshes.members.items ≡ members L
  pub ignored : (id : MsgId) → was_ignored memory.verdicts id ≡ last_ignored L id
