-- When names are equal, what an absent one stands for, and what identifies messages.
use Rattle.std.specs.Prelude.{◌≡◌, ℕ, Bool, nat_eq, ◌||◌, if◌then◌else◌, List, [], length, map, Option, Some, None, is_some, unwrap_or}
use Rattle.std.specs.Cmp.Lexicographic.{pointwise}
use Rattle.sha2.specs.Sha256.{sha256}
use Rattle.gs_base.specs.declared.names.PeerNo.{PeerNo}
use Rattle.gs_base.specs.declared.names.Topic.{Topic}
use Rattle.gs_base.specs.declared.names.MsgId.{MsgId}
use Rattle.gs_base.specs.declared.neighbour.Neighbour.{Neighbour}
use Rattle.gs_base.specs.declared.rpc.Message.{Message}

abbrev pub same_peer : PeerNo → PeerNo → Bool
same_peer p q = nat_eq p.0 q.0

-- the numbers of neighbours, in order
abbrev pub peers_of : List Neighbour → List PeerNo
peers_of neighbours = map (λ (n : Neighbour). n.peer) neighbours

abbrev pub same_topic : Topic → Topic → Bool
same_topic t u = pointwise nat_eq t.0 u.0

abbrev pub same_id : MsgId → MsgId → Bool
same_id x y = pointwise nat_eq x.0 y.0

-- the most bytes in a topic that a peer subscribes to or publishes on
abbrev pub longest_topic : ℕ
longest_topic = 1_024

-- how many topics a peer may ever be subscribed to
abbrev pub most_topics : ℕ
most_topics = 1_024

-- an absent topic stands for the empty one
abbrev pub topic_or_empty : Option Topic → Topic
topic_or_empty topic = unwrap_or topic (record { 0 = [] })

abbrev pub topic_of : Message → Topic
topic_of m = topic_or_empty m.topic

-- what a message carries: an absent payload stands for the empty one
abbrev pub payload_of : Message → List ℕ
payload_of m = unwrap_or m.payload []

-- bytes as long as the identifier of a message
abbrev pub HasIdentifierLength : List ℕ → Type 0
HasIdentifierLength bytes = length bytes ≡ 32

-- the identifier with these bytes, if they have its length
abbrev pub id_of : List ℕ → Option MsgId
id_of bytes = if nat_eq (length bytes) 32 then Some (record { 0 = bytes }) else None

-- the identifier of a message is the SHA-256 of its payload
unfoldable pub message_id : List ℕ → MsgId
message_id payload = record { 0 = sha256 payload }

-- a message has an author, a number, a signature or a key, even an empty one: StrictNoSign forbids these (libp2p pubsub,
-- "Signature Policy Options")
abbrev pub is_signed : Message → Bool
is_signed m = is_some m.origin || (is_some m.seqno || (is_some m.signature || is_some m.key))
