-- What a cache of whole messages holds, by how often it was shifted since each was put last, and how calls change that.
use Rattle.std.specs.Prelude.{◌≡◌, ℕ, ◌+◌, ◌-◌, ◌<◌, Bool, false, not, ◌&&◌, nat_lt, if◌then◌else◌, List, [], ◌∷◌, ◌++◌, length, drop, filter, Option, Some, None, option_map, unwrap_or}
use Rattle.std.specs.Map.{lookup}
use Rattle.gs_base.specs.declared.names.PeerNo.{PeerNo}
use Rattle.gs_base.specs.declared.names.MsgId.{MsgId}
use Rattle.gs_base.specs.declared.names.Topic.{Topic}
use Rattle.gs_base.specs.declared.rpc.Message.{Message}
use Rattle.gs_base.specs.Names.{same_peer, same_id, same_topic}
use Rattle.gs_base.specs.Rpcs.{most_identifiers}
use Rattle.gs_cache.specs.declared.message_cache.Answer.{Answer}
use Rattle.gs_cache.specs.declared.message_cache.Answer.TheVariants.{Given, Spent, Absent}

-- the most identifiers of a topic that are announced at once: as many as one offer may have
abbrev pub most_announced : ℕ
most_announced = most_identifiers

-- ---- one message

-- how many shifts came since a message was put last, on which topic it was, and the message
pub record Cached : Type 0 where
  pub age : ℕ
  pub topic : Topic
  pub message : Message

-- a put of a message is its last one, with no shift since
abbrev pub put_anew : MsgId → Topic → Message → MsgId → Option Cached → Option Cached
put_anew id topic message other before =
    if same_id id other then Some (record { age = 0; topic = topic; message = message }) else before

-- one shift more: a message that was shifted `len` times is lost
abbrev pub aged : ℕ → Option Cached → Option Cached
aged len None = None
aged len (Some c) =
    if nat_lt (c.age + 1) len then Some (record { age = c.age + 1; topic = c.topic; message = c.message }) else None

-- the answers that are left to a neighbour are all of them again at a put
abbrev pub all_left : MsgId → ℕ → MsgId → Option ℕ → Option ℕ
all_left id answers other before = if same_id id other then Some answers else before

-- an answer to a neighbour leaves it one less
abbrev pub one_less : MsgId → PeerNo → MsgId → PeerNo → Option ℕ → Option ℕ
one_less id peer other q before =
    if same_id id other && same_peer peer q then option_map (λ n. n - 1) before else before

-- how many answers are left to a neighbour, by those that are left to some, if each gets `answers`
abbrev pub left_to : ℕ → PeerNo → List (PeerNo × ℕ) → ℕ
left_to answers peer left = unwrap_or (lookup (same_peer peer) left) answers

-- a message that is put stands last, and no longer where it stood
abbrev pub put_last : MsgId → List MsgId → List MsgId
put_last id order = filter (λ other. not (same_id id other)) order ++ id ∷ []

-- ---- a cache

-- the last put of a message, and how many answers are left to some neighbours; all others have as many left as at a put
pub record Put : Type 0 where
  pub cached : Cached
  pub left : List (PeerNo × ℕ)

-- The first numbers say after how many shifts a message is lost, for how many it is announced, and how many answers each
-- neighbour gets. Then come the last puts, and the identifiers in the order of those puts, the oldest first.
pub record Messages : Type 0 where
  pub len : ℕ
  pub gossip : ℕ
  pub answers : ℕ
  pub puts : List (MsgId × Put)
  pub order : List MsgId

-- what is held about a message
abbrev pub cached : Messages → MsgId → Option Cached
cached m id = option_map (λ (p : Put). p.cached) (lookup (same_id id) m.puts)

-- how many answers are left to a neighbour, if the message is held
abbrev pub left : Messages → MsgId → PeerNo → Option ℕ
left m id peer = option_map (λ (p : Put). left_to m.answers peer p.left) (lookup (same_id id) m.puts)

-- the numbers with which a cache was made stay
pub record IsSetUpAlike (old new : Messages) : Type 0 where
  pub len : new.len ≡ old.len
  pub gossip : new.gossip ≡ old.gossip
  pub answers : new.answers ≡ old.answers

-- the message if an answer is left, and otherwise why there is none
abbrev pub IsAnswer : Answer → Option Cached → Option ℕ → Type 0
IsAnswer (Given message) held n = (option_map (λ (c : Cached). c.message) held ≡ Some message.now) × (0 < unwrap_or n 0)
IsAnswer Spent held n = n ≡ Some 0
IsAnswer Absent held n = held ≡ None

-- whether a message is announced on a topic
abbrev pub is_announced : ℕ → Topic → Option Cached → Bool
is_announced gossip topic None = false
is_announced gossip topic (Some c) = nat_lt c.age gossip && same_topic c.topic topic

-- the last ones of a list, at most n
abbrev pub last_of : {A : Type 0} → ℕ → List A → List A
last_of n xs = drop (length xs - n) xs

-- the identifiers that are announced on a topic, the oldest first
abbrev pub announced : Messages → Topic → List MsgId
announced m topic = last_of most_announced (filter (λ id. is_announced m.gossip topic (cached m id)) m.order)
