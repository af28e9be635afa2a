-- One thing becomes of a message.
use Rattle.std.proofs.Common.{◌≡◌, ℕ, ◌+◌, length, refl, arith}
use Rattle.std.specs.List.{sum_by}
use Rattle.gs_base.specs.declared.rpc.Message.{Message}
use Rattle.gs_base.specs.Names.{payload_of}
use Rattle.gs_counts.specs.declared.fate.Fate.{Fate}
use Rattle.gs_counts.specs.declared.fate.Fate.TheVariants.{New, Duplicate, Ignored, Rejected, Signed, OffTopic}
use Rattle.gs_counts.specs.declared.happening.Scene.{Scene}
use Rattle.gs_counts.specs.Heard.{message_happenings}
use Rattle.gs_counts.specs.Kinds.{ends_of_messages, payloads_of_messages}
use Rattle.gs_counts.specs.Rows.{amount_in}

pub one_end : (s : Scene) (m : Message) (fate : Fate) → sum_by (amount_in (message_happenings s m fate)) ends_of_messages ≡ 1
one_end s m New = refl
one_end s m Duplicate = refl
one_end s m Ignored = refl
one_end s m Rejected = refl
one_end s m Signed = refl
one_end s m OffTopic = refl

first : (n : ℕ) → (0 + (0 + n)) + 0 ≡ n
first n = omega arith

second : (n : ℕ) → (0 + 0) + (0 + n) ≡ n
second n = omega arith

pub one_payload : (s : Scene) (m : Message) (fate : Fate) → sum_by (amount_in (message_happenings s m fate)) payloads_of_messages ≡ length (payload_of m)
one_payload s m New = first (length (payload_of m))
one_payload s m Duplicate = second (length (payload_of m))
one_payload s m Ignored = second (length (payload_of m))
one_payload s m Rejected = second (length (payload_of m))
one_payload s m Signed = second (length (payload_of m))
one_payload s m OffTopic = second (length (payload_of m))
