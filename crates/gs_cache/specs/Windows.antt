-- What the windows of a cache of messages say, the newest window first.
use Rattle.std.specs.Prelude.{◌≡◌, ℕ, ◌+◌, Bool, false, not, ◌&&◌, nat_eq, nat_lt, if◌then◌else◌, List, [], ◌∷◌, ◌++◌, length, map, filter, Option, Some, None, is_some, option_map}
use Rattle.std.specs.List.{list_any}
use Rattle.std.specs.Map.{lookup}
use Rattle.std.specs.Option.{option_or}
use Rattle.gs_base.specs.declared.names.MsgId.{MsgId}
use Rattle.gs_base.specs.declared.names.PeerNo.{PeerNo}
use Rattle.gs_base.specs.declared.names.Topic.{Topic}
use Rattle.gs_base.specs.declared.rpc.Message.{Message}
use Rattle.gs_base.specs.Names.{same_id, same_topic}
use Rattle.gs_cache.specs.declared.message_cache.window.Kept.{Kept}
use Rattle.gs_cache.specs.declared.message_cache.window.Window.{Window}
use Rattle.gs_cache.specs.CachedMessages.{Put, left_to, one_less}

abbrev pub kept_at : Window → MsgId → Option Kept
kept_at w id = lookup (same_id id) w.puts.entries

abbrev pub has : Window → MsgId → Bool
has w id = is_some (kept_at w id)

-- what the newest window that has a message keeps about it
abbrev pub kept_in : List Window → MsgId → Option Kept
kept_in [] id = None
kept_in (w ∷ ws) id = option_or (kept_at w id) (kept_in ws id)

-- ---- the last puts

abbrev pub put_of : ℕ → Kept → Put
put_of age k = record {
  cached = record { age = age; topic = k.topic; message = k.message };
  left = k.left;
}

abbrev pub puts_of : ℕ → List Window → List (MsgId × Put)
puts_of age [] = []
puts_of age (w ∷ ws) = map (λ e. (e.0, put_of age e.1)) w.puts.entries ++ puts_of (age + 1) ws

-- ---- their order

-- an identifier's place in its window is that of its last put there
abbrev pub is_placed : ℕ → Option Kept → Bool
is_placed place None = false
is_placed place (Some k) = nat_eq k.place place

abbrev pub placed : List (MsgId × Kept) → ℕ → List MsgId → List MsgId
placed puts place [] = []
placed puts place (id ∷ ids) =
    if is_placed place (lookup (same_id id) puts) then id ∷ placed puts (place + 1) ids else placed puts (place + 1) ids

-- the identifiers that were put into a window, in the order of their last puts there
abbrev pub ids_of : Window → List MsgId
ids_of w = placed w.puts.entries 0 w.order.items

-- in all windows, each in the newest one that has it
abbrev pub order_of : List Window → List MsgId
order_of [] = []
order_of (w ∷ ws) = filter (λ id. not (has w id)) (order_of ws) ++ ids_of w

-- ---- announcements

abbrev pub is_on : Topic → Option Kept → Bool
is_on topic None = false
is_on topic (Some k) = same_topic k.topic topic

-- the last put of a message in a window was at a place, and on a topic
abbrev pub is_listed_at : Window → Topic → ℕ → MsgId → Bool
is_listed_at w topic place id = is_placed place (kept_at w id) && is_on topic (kept_at w id)

-- whether an identifier that a window has is announced, if these windows are newer
abbrev pub is_listed : List Window → Window → Topic → MsgId → Bool
is_listed newer w topic id = is_on topic (kept_at w id) && not (list_any (λ n. has n id) newer)

abbrev pub listed : List Window → Window → Topic → List MsgId
listed newer w topic = filter (is_listed newer w topic) (ids_of w)

-- what is announced of these windows, whose first has this age, the oldest first
abbrev pub announced_in : ℕ → ℕ → Topic → List Window → List MsgId
announced_in age gossip topic [] = []
announced_in age gossip topic (w ∷ ws) =
    filter (λ id. not (has w id)) (announced_in (age + 1) gossip topic ws)
    ++ (if nat_lt age gossip then filter (λ id. is_on topic (kept_at w id)) (ids_of w) else [])

-- ---- calls

-- the same puts in the same order
pub record HasSame (old new : Window) : Type 0 where
  pub order : new.order.items ≡ old.order.items
  pub puts : new.puts.entries ≡ old.puts.entries

-- one message more at the end of the order, with all answers left
pub record Puts (id : MsgId) (topic : Topic) (message : Message) (old new : Window) : Type 0 where
  pub order : new.order.items ≡ old.order.items ++ id ∷ []
  pub puts
      : (other : MsgId)
      → kept_at new other
      ≡ (if same_id id other
      then Some (record { place = length old.order.items; topic = topic; message = message; left = [] })
      else kept_at old other)

-- where a message was put, on which topic, and the message
pub record Core : Type 0 where
  pub place : ℕ
  pub topic : Topic
  pub message : Message

abbrev pub core : Kept → Core
core k = record { place = k.place; topic = k.topic; message = k.message }

abbrev pub left_at : ℕ → Window → MsgId → PeerNo → Option ℕ
left_at answers w id q = option_map (λ (k : Kept). left_to answers q k.left) (kept_at w id)

-- the same messages at the same places; a neighbour has one answer less left for one of them
pub record Counts (answers : ℕ) (id : MsgId) (peer : PeerNo) (old new : Window) : Type 0 where
  pub order : new.order.items ≡ old.order.items
  pub cores : (other : MsgId) → option_map core (kept_at new other) ≡ option_map core (kept_at old other)
  pub lefts
      : (other : MsgId) (q : PeerNo) → left_at answers new other q ≡ one_less id peer other q (left_at answers old other q)
