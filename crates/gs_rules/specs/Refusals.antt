-- What a peer's own user may be refused, and for which reason first.
use Rattle.std.specs.Prelude.{ℕ, Bool, not, ◌||◌, nat_lt, if◌then◌else◌, List, [], ◌∷◌, length, Option, Some, None, is_some}
use Rattle.gs_base.specs.declared.names.Topic.{Topic}
use Rattle.gs_base.specs.Names.{longest_topic, message_id}
use Rattle.gs_base.specs.Rpcs.{publication}
use Rattle.gs_wire.specs.Codec.{codec}
use Rattle.gs_rules.specs.declared.event.Event.{Event}
use Rattle.gs_rules.specs.declared.event.Event.TheVariants.{Heard, Late, Part, BeatBegin, Step, Own, Lost, Decay, RoundEnd, Shut}
use Rattle.gs_plan.specs.declared.plan.Act.{Act}
use Rattle.gs_plan.specs.declared.plan.Act.TheVariants.{Subscribe, Unsubscribe, Publish, HangUp, Raw}
use Rattle.gs_rules.specs.declared.refusal.Refusal.{Refusal}
use Rattle.gs_rules.specs.declared.refusal.Refusal.TheVariants.{AlreadySeen, TooLong, Joined, NotJoined, Stopped, NotOpen, TooMany}
use Rattle.gs_rules.specs.Peers.{Peer, seen_ttl}
use Rattle.gs_rules.specs.Tables.{Entries, is_shut, joined, seen, up}
use Rattle.gs_rules.specs.Legal.{has_room_for}

-- the numbers of refusals, as docs/REFUSALS.md lists them
abbrev pub number_of : Refusal → ℕ
number_of AlreadySeen = 16
number_of TooLong = 17
number_of Joined = 18
number_of NotJoined = 19
number_of Stopped = 21
number_of NotOpen = 33
number_of TooMany = 34

-- the first reason that holds
abbrev pub first_of : List (Bool × Refusal) → Option Refusal
first_of [] = None
first_of (x ∷ xs) = if x.0 then Some x.1 else first_of xs

abbrev pub is_long : Topic → Bool
is_long t = nat_lt longest_topic (length t.0)

-- what may stand in the way of an act
abbrev pub act_reasons : Peer → Entries → ℕ → Act → List (Bool × Refusal)
act_reasons p L at (Subscribe t) =
    (is_long t, TooLong) ∷ (joined L t, Joined) ∷ (not (has_room_for L t), TooMany) ∷ []
act_reasons p L at (Unsubscribe t) = (not (joined L t), NotJoined) ∷ []
act_reasons p L at (Publish t payload) =
    (is_long t || not (codec.fits (publication t payload)), TooLong)
    ∷ (is_some (seen (seen_ttl p) L (message_id payload) at), AlreadySeen)
    ∷ []
act_reasons p L at (HangUp q) = (not (up L q), NotOpen) ∷ []
act_reasons p L at (Raw q bytes) = (not (up L q), NotOpen) ∷ []

-- What may stand in the way of an event, where nothing is owed. What comes from a neighbour is never refused, nor is what
-- is owed.
abbrev pub reasons : Peer → Entries → ℕ → Event → List (Bool × Refusal)
reasons p L at (Own act) = (is_shut L, Stopped) ∷ act_reasons p L at act
reasons p L at BeatBegin = (is_shut L, Stopped) ∷ []
reasons p L at Decay = (is_shut L, Stopped) ∷ []
reasons p L at (RoundEnd r) = (is_shut L, Stopped) ∷ []
reasons p L at Shut = (is_shut L, Stopped) ∷ []
reasons p L at (Heard q rpc) = []
reasons p L at (Late q rpc) = []
reasons p L at (Part q part) = []
reasons p L at (Step step) = []
reasons p L at (Lost q loss) = []

-- why the event may not come
abbrev pub refusal : Peer → Entries → ℕ → Event → Option Refusal
refusal p L at event = first_of (reasons p L at event)
