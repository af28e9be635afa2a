-- The kinds of happenings, their places, and which end of a link each counts for.
use Rattle.std.specs.Prelude.{ℕ, Bool, true, false, nat_eq, List, [], ◌∷◌}
use Rattle.gs_counts.specs.declared.kind.Kind.{Kind}
use Rattle.gs_counts.specs.declared.kind.Kind.TheVariants.{RpcsHeard, New, Duplicates, Ignored, Rejected, Signed, OffTopic, PayloadBytesNew, PayloadBytesAgain, SubscriptionsHeard, IhaveHeard, IdsOffered, IwantHeard, IdsAsked, GraftHeard, PruneHeard, RpcsSent, BytesSent, RawBytesSent, MessageBytesSent, ControlBytesSent, SubscriptionBytesSent, SubscriptionsSent, MessagesPushed, MessagesAnswered, IhaveSent, IdsOfferedSent, IwantSent, IdsAskedSent, GraftSent, PruneSent, RpcsGraylisted, RpcsLate, Faults, GraftRefusedExplicit, GraftRefusedBackoff, GraftRefusedScore, GraftRefusedFull, IdsNotSentScore, IdsNotSentTooOften, IdsNotSentNotKept, PromisesBroken, RefusedLines, Delivered, Grafted, GraftedByNeighbour, GraftedByHeartbeat, Pruned, PrunedByNeighbour, PrunedByHeartbeat, PrunedByLoss}

-- all kinds, in the order of the columns
unfoldable pub all_kinds : List Kind
all_kinds =
    RpcsHeard
    ∷ New
    ∷ Duplicates
    ∷ Ignored
    ∷ Rejected
    ∷ Signed
    ∷ OffTopic
    ∷ PayloadBytesNew
    ∷ PayloadBytesAgain
    ∷ SubscriptionsHeard
    ∷ IhaveHeard
    ∷ IdsOffered
    ∷ IwantHeard
    ∷ IdsAsked
    ∷ GraftHeard
    ∷ PruneHeard
    ∷ RpcsSent
    ∷ BytesSent
    ∷ RawBytesSent
    ∷ MessageBytesSent
    ∷ ControlBytesSent
    ∷ SubscriptionBytesSent
    ∷ SubscriptionsSent
    ∷ MessagesPushed
    ∷ MessagesAnswered
    ∷ IhaveSent
    ∷ IdsOfferedSent
    ∷ IwantSent
    ∷ IdsAskedSent
    ∷ GraftSent
    ∷ PruneSent
    ∷ RpcsGraylisted
    ∷ RpcsLate
    ∷ Faults
    ∷ GraftRefusedExplicit
    ∷ GraftRefusedBackoff
    ∷ GraftRefusedScore
    ∷ GraftRefusedFull
    ∷ IdsNotSentScore
    ∷ IdsNotSentTooOften
    ∷ IdsNotSentNotKept
    ∷ PromisesBroken
    ∷ RefusedLines
    ∷ Delivered
    ∷ Grafted
    ∷ GraftedByNeighbour
    ∷ GraftedByHeartbeat
    ∷ Pruned
    ∷ PrunedByNeighbour
    ∷ PrunedByHeartbeat
    ∷ PrunedByLoss
    ∷ []

-- what may become of a message that is heard
abbrev pub ends_of_messages : List Kind
ends_of_messages = New ∷ Duplicates ∷ Ignored ∷ Rejected ∷ Signed ∷ OffTopic ∷ []

-- what the bytes of its payload may count as
abbrev pub payloads_of_messages : List Kind
payloads_of_messages = PayloadBytesNew ∷ PayloadBytesAgain ∷ []

-- the place of a kind among all kinds
abbrev pub place_of : Kind → ℕ
place_of RpcsHeard = 0
place_of New = 1
place_of Duplicates = 2
place_of Ignored = 3
place_of Rejected = 4
place_of Signed = 5
place_of OffTopic = 6
place_of PayloadBytesNew = 7
place_of PayloadBytesAgain = 8
place_of SubscriptionsHeard = 9
place_of IhaveHeard = 10
place_of IdsOffered = 11
place_of IwantHeard = 12
place_of IdsAsked = 13
place_of GraftHeard = 14
place_of PruneHeard = 15
place_of RpcsSent = 16
place_of BytesSent = 17
place_of RawBytesSent = 18
place_of MessageBytesSent = 19
place_of ControlBytesSent = 20
place_of SubscriptionBytesSent = 21
place_of SubscriptionsSent = 22
place_of MessagesPushed = 23
place_of MessagesAnswered = 24
place_of IhaveSent = 25
place_of IdsOfferedSent = 26
place_of IwantSent = 27
place_of IdsAskedSent = 28
place_of GraftSent = 29
place_of PruneSent = 30
place_of RpcsGraylisted = 31
place_of RpcsLate = 32
place_of Faults = 33
place_of GraftRefusedExplicit = 34
place_of GraftRefusedBackoff = 35
place_of GraftRefusedScore = 36
place_of GraftRefusedFull = 37
place_of IdsNotSentScore = 38
place_of IdsNotSentTooOften = 39
place_of IdsNotSentNotKept = 40
place_of PromisesBroken = 41
place_of RefusedLines = 42
place_of Delivered = 43
place_of Grafted = 44
place_of GraftedByNeighbour = 45
place_of GraftedByHeartbeat = 46
place_of Pruned = 47
place_of PrunedByNeighbour = 48
place_of PrunedByHeartbeat = 49
place_of PrunedByLoss = 50

abbrev pub same_kind : Kind → Kind → Bool
same_kind j k = nat_eq (place_of j) (place_of k)

-- Whether the peer is the sender and the neighbour is the one that hears. Otherwise it is the other way round. A promise is
-- broken by the peer that made it.
abbrev pub is_of_sender : Kind → Bool
is_of_sender RpcsHeard = false
is_of_sender New = false
is_of_sender Duplicates = false
is_of_sender Ignored = false
is_of_sender Rejected = false
is_of_sender Signed = false
is_of_sender OffTopic = false
is_of_sender PayloadBytesNew = false
is_of_sender PayloadBytesAgain = false
is_of_sender SubscriptionsHeard = false
is_of_sender IhaveHeard = false
is_of_sender IdsOffered = false
is_of_sender IwantHeard = false
is_of_sender IdsAsked = false
is_of_sender GraftHeard = false
is_of_sender PruneHeard = false
is_of_sender RpcsSent = true
is_of_sender BytesSent = true
is_of_sender RawBytesSent = true
is_of_sender MessageBytesSent = true
is_of_sender ControlBytesSent = true
is_of_sender SubscriptionBytesSent = true
is_of_sender SubscriptionsSent = true
is_of_sender MessagesPushed = true
is_of_sender MessagesAnswered = true
is_of_sender IhaveSent = true
is_of_sender IdsOfferedSent = true
is_of_sender IwantSent = true
is_of_sender IdsAskedSent = true
is_of_sender GraftSent = true
is_of_sender PruneSent = true
is_of_sender RpcsGraylisted = false
is_of_sender RpcsLate = false
is_of_sender Faults = false
is_of_sender GraftRefusedExplicit = false
is_of_sender GraftRefusedBackoff = false
is_of_sender GraftRefusedScore = false
is_of_sender GraftRefusedFull = false
is_of_sender IdsNotSentScore = false
is_of_sender IdsNotSentTooOften = false
is_of_sender IdsNotSentNotKept = false
is_of_sender PromisesBroken = true
is_of_sender RefusedLines = true
is_of_sender Delivered = true
is_of_sender Grafted = true
is_of_sender GraftedByNeighbour = true
is_of_sender GraftedByHeartbeat = true
is_of_sender Pruned = true
is_of_sender PrunedByNeighbour = true
is_of_sender PrunedByHeartbeat = true
is_of_sender PrunedByLoss = true
