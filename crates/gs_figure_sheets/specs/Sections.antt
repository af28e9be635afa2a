-- Which figures stand in which sheet.
use Rattle.std.specs.Prelude.{ℕ, Bool, true, false, List, [], ◌∷◌, ◌++◌, filter, map}
use Rattle.std.specs.List.{flat_map, range_with_len}
use Rattle.gs_counts.specs.declared.kind.Kind.{Kind}
use Rattle.gs_counts.specs.declared.kind.Kind.TheVariants.{RpcsHeard, New, Duplicates, Ignored, Rejected, Signed, OffTopic, PayloadBytesNew, PayloadBytesAgain, SubscriptionsHeard, IhaveHeard, IdsOffered, IwantHeard, IdsAsked, GraftHeard, PruneHeard, RpcsSent, BytesSent, RawBytesSent, MessageBytesSent, ControlBytesSent, SubscriptionBytesSent, SubscriptionsSent, MessagesPushed, MessagesAnswered, IhaveSent, IdsOfferedSent, IwantSent, IdsAskedSent, GraftSent, PruneSent, RpcsGraylisted, RpcsLate, Faults, GraftRefusedExplicit, GraftRefusedBackoff, GraftRefusedScore, GraftRefusedFull, IdsNotSentScore, IdsNotSentTooOften, IdsNotSentNotKept, PromisesBroken, RefusedLines, Delivered, Grafted, GraftedByNeighbour, GraftedByHeartbeat, Pruned, PrunedByNeighbour, PrunedByHeartbeat, PrunedByLoss}
use Rattle.gs_figure_sheets.specs.declared.concern.Concern.{Concern}
use Rattle.gs_figure_sheets.specs.declared.concern.Concern.TheVariants.{OnLink, OnTopic, OnBoth, OnNeither}
use Rattle.gs_figure_sheets.specs.declared.figure.Figure.{Figure}
use Rattle.gs_figure_sheets.specs.declared.figure.Figure.TheVariants.{Of, BytesHeard, RawBytesHeard, SmallestMesh, LargestMesh, LowestScore, HighestScore, LowestInRun, LowestAt, LowestOf}
use Rattle.gs_figure_sheets.specs.declared.section.Section.{Section}
use Rattle.gs_figure_sheets.specs.declared.section.Section.TheVariants.{Heard, Sent, Nothing, State}
use Rattle.gs_figure_sheets.specs.declared.wanted.Subject.{Subject}
use Rattle.gs_figure_sheets.specs.declared.wanted.Subject.TheVariants.{Run, Rounds, Topics, Links}

-- ---- what belongs to links and topics

-- what a happening of a kind concerns in addition to its peer
abbrev pub concern_of : Kind → Concern
concern_of RpcsHeard = OnLink
concern_of New = OnBoth
concern_of Duplicates = OnBoth
concern_of Ignored = OnBoth
concern_of Rejected = OnBoth
concern_of Signed = OnBoth
concern_of OffTopic = OnBoth
concern_of PayloadBytesNew = OnBoth
concern_of PayloadBytesAgain = OnBoth
concern_of SubscriptionsHeard = OnBoth
concern_of IhaveHeard = OnBoth
concern_of IdsOffered = OnBoth
concern_of IwantHeard = OnLink
concern_of IdsAsked = OnLink
concern_of GraftHeard = OnBoth
concern_of PruneHeard = OnBoth
concern_of RpcsSent = OnLink
concern_of BytesSent = OnLink
concern_of RawBytesSent = OnLink
concern_of MessageBytesSent = OnLink
concern_of ControlBytesSent = OnLink
concern_of SubscriptionBytesSent = OnLink
concern_of SubscriptionsSent = OnBoth
concern_of MessagesPushed = OnBoth
concern_of MessagesAnswered = OnBoth
concern_of IhaveSent = OnBoth
concern_of IdsOfferedSent = OnBoth
concern_of IwantSent = OnLink
concern_of IdsAskedSent = OnLink
concern_of GraftSent = OnBoth
concern_of PruneSent = OnBoth
concern_of RpcsGraylisted = OnLink
concern_of RpcsLate = OnLink
concern_of Faults = OnLink
concern_of GraftRefusedExplicit = OnBoth
concern_of GraftRefusedBackoff = OnBoth
concern_of GraftRefusedScore = OnBoth
concern_of GraftRefusedFull = OnBoth
concern_of IdsNotSentScore = OnLink
concern_of IdsNotSentTooOften = OnLink
concern_of IdsNotSentNotKept = OnLink
concern_of PromisesBroken = OnLink
concern_of RefusedLines = OnNeither
concern_of Delivered = OnTopic
concern_of Grafted = OnBoth
concern_of GraftedByNeighbour = OnBoth
concern_of GraftedByHeartbeat = OnBoth
concern_of Pruned = OnBoth
concern_of PrunedByNeighbour = OnBoth
concern_of PrunedByHeartbeat = OnBoth
concern_of PrunedByLoss = OnBoth

abbrev pub is_on_link : Concern → Bool
is_on_link OnLink = true
is_on_link OnTopic = false
is_on_link OnBoth = true
is_on_link OnNeither = false

abbrev pub is_on_topic : Concern → Bool
is_on_topic OnLink = false
is_on_topic OnTopic = true
is_on_topic OnBoth = true
is_on_topic OnNeither = false

-- ---- sections

-- what a peer hears
unfoldable pub heard_figures : List Figure
heard_figures =
    Of RpcsHeard
    ∷ BytesHeard
    ∷ RawBytesHeard
    ∷ Of New
    ∷ Of Duplicates
    ∷ Of Ignored
    ∷ Of Rejected
    ∷ Of Signed
    ∷ Of OffTopic
    ∷ Of PayloadBytesNew
    ∷ Of PayloadBytesAgain
    ∷ Of SubscriptionsHeard
    ∷ Of IhaveHeard
    ∷ Of IdsOffered
    ∷ Of IwantHeard
    ∷ Of IdsAsked
    ∷ Of GraftHeard
    ∷ Of PruneHeard
    ∷ []

-- what a peer sends
unfoldable pub sent_figures : List Figure
sent_figures =
    Of RpcsSent
    ∷ Of BytesSent
    ∷ Of RawBytesSent
    ∷ Of MessageBytesSent
    ∷ Of ControlBytesSent
    ∷ Of SubscriptionBytesSent
    ∷ Of SubscriptionsSent
    ∷ Of MessagesPushed
    ∷ Of MessagesAnswered
    ∷ Of IhaveSent
    ∷ Of IdsOfferedSent
    ∷ Of IwantSent
    ∷ Of IdsAskedSent
    ∷ Of GraftSent
    ∷ Of PruneSent
    ∷ []

-- what has no effect, and why
unfoldable pub nothing_figures : List Figure
nothing_figures =
    Of RpcsGraylisted
    ∷ Of RpcsLate
    ∷ Of Faults
    ∷ Of GraftRefusedExplicit
    ∷ Of GraftRefusedBackoff
    ∷ Of GraftRefusedScore
    ∷ Of GraftRefusedFull
    ∷ Of IdsNotSentScore
    ∷ Of IdsNotSentTooOften
    ∷ Of IdsNotSentNotKept
    ∷ Of PromisesBroken
    ∷ Of RefusedLines
    ∷ []

-- deliveries, meshes and scores
unfoldable pub state_figures : List Figure
state_figures =
    Of Delivered
    ∷ Of Grafted
    ∷ Of GraftedByNeighbour
    ∷ Of GraftedByHeartbeat
    ∷ Of Pruned
    ∷ Of PrunedByNeighbour
    ∷ Of PrunedByHeartbeat
    ∷ Of PrunedByLoss
    ∷ SmallestMesh
    ∷ LargestMesh
    ∷ LowestScore
    ∷ HighestScore
    ∷ LowestInRun
    ∷ LowestAt
    ∷ []

abbrev pub all_figures : Section → List Figure
all_figures Heard = heard_figures
all_figures Sent = sent_figures
all_figures Nothing = nothing_figures
all_figures State = state_figures

abbrev pub all_sections : List Section
all_sections = Heard ∷ Sent ∷ Nothing ∷ State ∷ []

-- ---- which figures stand in a row

-- a row of a round has each count, the sizes of meshes, and the lowest score
abbrev pub is_of_round : Figure → Bool
is_of_round (Of kind) = true
is_of_round BytesHeard = false
is_of_round RawBytesHeard = false
is_of_round SmallestMesh = true
is_of_round LargestMesh = true
is_of_round LowestScore = true
is_of_round HighestScore = false
is_of_round LowestInRun = false
is_of_round LowestAt = false
is_of_round (LowestOf place) = true

-- a figure is a count, and the predicate holds for what its happenings concern
abbrev pub is_count_of : (Concern → Bool) → Figure → Bool
is_count_of counts (Of kind) = counts (concern_of kind)
is_count_of counts BytesHeard = false
is_count_of counts RawBytesHeard = false
is_count_of counts SmallestMesh = false
is_count_of counts LargestMesh = false
is_count_of counts LowestScore = false
is_count_of counts HighestScore = false
is_count_of counts LowestInRun = false
is_count_of counts LowestAt = false
is_count_of counts (LowestOf place) = false

-- a figure stands in the rows of a subject
abbrev pub is_shown : Subject → Figure → Bool
is_shown Run figure = true
is_shown Rounds figure = is_of_round figure
is_shown Topics figure = is_count_of is_on_topic figure
is_shown Links figure = is_count_of is_on_link figure

-- the lowest scores of groups follow the state of rounds
abbrev pub has_groups : Subject → Section → Bool
has_groups Run section = false
has_groups Rounds Heard = false
has_groups Rounds Sent = false
has_groups Rounds Nothing = false
has_groups Rounds State = true
has_groups Topics section = false
has_groups Links section = false

-- the lowest score of each group, if the rows have them, where count is the number of groups
abbrev pub group_figures : Bool → ℕ → List Figure
group_figures true count = map LowestOf (range_with_len 0 count)
group_figures false count = []

-- the figures of a section, where count is the number of groups
abbrev pub section_figures : Subject → ℕ → Section → List Figure
section_figures subject count section =
    filter (is_shown subject) (all_figures section) ++ group_figures (has_groups subject section) count

-- the figures of all sections
abbrev pub whole_figures : Subject → ℕ → List Figure
whole_figures subject count = flat_map (section_figures subject count) all_sections
