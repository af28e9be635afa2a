-- What happens when something is delivered to a peer's own user, when a mesh changes, and when a line is refused.
use Rattle.std.specs.Prelude.{ℕ, List, [], ◌∷◌, Option, None, Some}
use Rattle.gs_base.specs.declared.names.PeerNo.{PeerNo}
use Rattle.gs_base.specs.declared.names.Topic.{Topic}
use Rattle.gs_base.specs.declared.mark.Mark.{Mark}
use Rattle.gs_base.specs.declared.mark.Mark.TheVariants as marks
use Rattle.gs_rules.specs.declared.event.Event.{Event}
use Rattle.gs_rules.specs.declared.event.Event.TheVariants.{Heard, Late, Part, BeatBegin, Step, Own, Lost, Decay, RoundEnd, Shut}
use Rattle.gs_rules.specs.declared.refusal.RefusedLine.{RefusedLine}
use Rattle.gs_counts.specs.declared.happening.Happening.{Happening}
use Rattle.gs_counts.specs.declared.happening.Scene.{Scene}
use Rattle.gs_counts.specs.declared.kind.Kind.{Kind}
use Rattle.gs_counts.specs.declared.kind.Kind.TheVariants as kinds
use Rattle.gs_counts.specs.Happenings.{heard_of, of_peer, on_none, on_topic}

abbrev pub delivery_happenings : Scene → Topic × List ℕ → List Happening
delivery_happenings s x = on_topic s x.0 kinds.Delivered 1 ∷ []

-- ---- meshes

-- What else a neighbour that comes into a mesh at an event counts as, by what brought it in. Each event is named here, so
-- that a new one must be decided on.
abbrev pub graft_cause : Event → Option Kind
graft_cause (Part q part) = Some kinds.GraftedByNeighbour
graft_cause (Step step) = Some kinds.GraftedByHeartbeat
graft_cause (Heard q rpc) = None
graft_cause (Late q rpc) = None
graft_cause BeatBegin = None
graft_cause (Own act) = None
graft_cause (Lost q loss) = None
graft_cause Decay = None
graft_cause (RoundEnd r) = None
graft_cause Shut = None

-- What else a neighbour that leaves a mesh at an event counts as, by what took it out. Each event is named here, so that a
-- new one must be decided on.
abbrev pub prune_cause : Event → Option Kind
prune_cause (Part q part) = Some kinds.PrunedByNeighbour
prune_cause (Step step) = Some kinds.PrunedByHeartbeat
prune_cause (Lost q loss) = Some kinds.PrunedByLoss
prune_cause (Heard q rpc) = None
prune_cause (Late q rpc) = None
prune_cause BeatBegin = None
prune_cause (Own act) = None
prune_cause Decay = None
prune_cause (RoundEnd r) = None
prune_cause Shut = None

-- a change of a mesh counts for its cause too, if the cause is counted
abbrev pub cause_happenings : Scene → Topic → Option Kind → List Happening
cause_happenings s t None = []
cause_happenings s t (Some cause) = on_topic s t cause 1 ∷ []

-- Who comes into a mesh at an event, and who leaves one. Each mark is named here, so that a new one must be decided on.
abbrev pub mark_happenings : Scene → Event → Mark → List Happening
mark_happenings s event (marks.Grafted q t) =
    on_topic (heard_of s q) t kinds.Grafted 1 ∷ cause_happenings (heard_of s q) t (graft_cause event)
mark_happenings s event (marks.Pruned q t) =
    on_topic (heard_of s q) t kinds.Pruned 1 ∷ cause_happenings (heard_of s q) t (prune_cause event)
mark_happenings s event (marks.Seen id verdict) = []
mark_happenings s event (marks.First q t id) = []
mark_happenings s event (marks.Near q t id) = []
mark_happenings s event (marks.Invalid q t) = []
mark_happenings s event (marks.Deficit q t z) = []
mark_happenings s event (marks.Misbehaviour q) = []
mark_happenings s event (marks.Cached id t) = []
mark_happenings s event (marks.Answered q id) = []
mark_happenings s event (marks.Offered q) = []
mark_happenings s event (marks.Asked q n) = []
mark_happenings s event (marks.Fanned q t) = []
mark_happenings s event (marks.Unfanned q t) = []
mark_happenings s event (marks.Backoff q t end) = []
mark_happenings s event (marks.Published t) = []

-- ---- lines of the script

abbrev pub refusal_happenings : PeerNo → RefusedLine → List Happening
refusal_happenings p line = on_none (of_peer line.at p) kinds.RefusedLines 1 ∷ []
