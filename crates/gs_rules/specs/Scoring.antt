-- The scores of a peer's neighbours (gossipsub v1.1, "Peer Scoring"): what a trace says about each, and what a neighbour
-- with a low score loses.
use Rattle.std.specs.Prelude.{ℕ, ℤ, int_lt, Bool, true, not, ◌&&◌, ◌||◌, nat_lt, if◌then◌else◌, [], ◌∷◌, length, Option, Some, None}
use Rattle.std.specs.List.{list_any}
use Rattle.gs_base.specs.declared.names.PeerNo.{PeerNo}
use Rattle.gs_base.specs.declared.names.Topic.{Topic}
use Rattle.gs_base.specs.declared.mark.Mark.{Mark}
use Rattle.gs_base.specs.declared.names.Millis.{Millis}
use Rattle.gs_base.specs.declared.mark.Mark.TheVariants.{First, Near, Deficit, Invalid, Misbehaviour, Grafted, Pruned}
use Rattle.gs_base.specs.Names.{most_topics, same_topic}
use Rattle.gs_score.specs.Histories.{Change, History, Marked, Decayed, Left, ShutOut, Setting, named, score_in}
use Rattle.gs_score.specs.Histories as histories
use Rattle.gs_rules.specs.declared.event.Event.{Event}
use Rattle.gs_rules.specs.declared.event.Event.TheVariants.{Heard, Late, BeatBegin, Decay, RoundEnd, Shut, Part, Step, Own, Lost}
use Rattle.gs_rules.specs.Events.{of_decay}
use Rattle.gs_rules.specs.Peers.{Peer, is_explicit, is_neighbour}
use Rattle.gs_rules.specs.Parts.{IsPartFromNeighbour}
use Rattle.gs_rules.specs.Tables.{Entries, after_marks, lost}

-- ---- what happened to the neighbours

-- each message and each GRAFT came from a neighbour; other events need not, since each of their marks counts anyway
abbrev pub IsFromNeighbour : Peer → Event → Type 0
IsFromNeighbour p (Part q part) = IsPartFromNeighbour p q part
IsFromNeighbour p (Heard q rpc) = Unit {0}
IsFromNeighbour p (Late q rpc) = Unit {0}
IsFromNeighbour p BeatBegin = Unit {0}
IsFromNeighbour p (Step step) = Unit {0}
IsFromNeighbour p (Own act) = Unit {0}
IsFromNeighbour p (Lost q loss) = Unit {0}
IsFromNeighbour p Decay = Unit {0}
IsFromNeighbour p (RoundEnd r) = Unit {0}
IsFromNeighbour p Shut = Unit {0}

-- a neighbour has counters on a topic, or on few enough topics to have them on one more
abbrev pub has_counters : Peer → History → PeerNo → Topic → Bool
has_counters p H q t =
    is_neighbour p q && (list_any (same_topic t) (named H q) || nat_lt (length (named H q)) most_topics)

-- whether a mark counts: it concerns a neighbour, with counters on the topic. In a legal trace each mark about a neighbour
-- does.
abbrev pub is_counted : Peer → History → Mark → Bool
is_counted p H (First q t id) = has_counters p H q t
is_counted p H (Near q t id) = has_counters p H q t
is_counted p H (Deficit q t z) = has_counters p H q t
is_counted p H (Invalid q t) = has_counters p H q t
is_counted p H (Misbehaviour q) = is_neighbour p q
is_counted p H (Grafted q t) = has_counters p H q t
is_counted p H other = true

-- what a mark that was made at a moment says: a neighbour entered a mesh or left one, or a counter is raised
abbrev pub change_of : Millis → Mark → Change
change_of at (Grafted q t) = histories.Grafted q t at
change_of at (Pruned q t) = Left q t
change_of at mark = Marked mark

abbrev pub marked_after : Peer → Millis → Mark → History → History
marked_after p at mark H = if is_counted p H mark then change_of at mark ∷ H else H

-- a lost neighbour no longer counts at its address
abbrev pub shut_out : Option PeerNo → History → History
shut_out None H = H
shut_out (Some q) H = ShutOut q ∷ H

-- all counters decay by a step, and a neighbour may be lost
abbrev pub changed_after : Event → History → History
changed_after event H = of_decay (Decayed ∷ H) (shut_out (lost event) H) event

-- what happened to the neighbours, the newest first
abbrev pub history : Peer → Entries → History
history p [] = []
history p (e ∷ L) = after_marks (marked_after p e.at) e.effects.marks (changed_after e.event (history p L))

-- ---- scores

abbrev pub setting_of : Peer → Setting
setting_of p = record { params = p.params; neighbours = p.neighbours }

-- the score of a neighbour at a moment, over the topics on which anything is known about it, in millionths
unfoldable pub score : Peer → Entries → ℕ → PeerNo → ℤ
score p L at q = score_in (setting_of p) at (history p L) q (named (history p L) q)

-- a score is below a threshold; one that equals the threshold is not
abbrev pub is_below : ℤ → ℤ → Bool
is_below threshold x = int_lt x threshold

-- its offers and its requests count for nothing, and it is offered no messages
abbrev pub is_ignored : Peer → Entries → ℕ → PeerNo → Bool
is_ignored p L at q = is_below p.params.thresholds.gossip_threshold (score p L at q)

-- it gets nothing that the peer publishes, unless it is explicit
abbrev pub is_passed_over : Peer → Entries → ℕ → PeerNo → Bool
is_passed_over p L at q = is_below p.params.thresholds.publish_threshold (score p L at q)

-- nothing that it sends counts; the graylist holds no explicit neighbour
abbrev pub is_graylisted : Peer → Entries → ℕ → PeerNo → Bool
is_graylisted p L at q =
    not (is_explicit p q) && is_below p.params.thresholds.graylist_threshold (score p L at q)
