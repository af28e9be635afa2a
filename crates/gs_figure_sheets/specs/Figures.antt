-- The column of each figure in a row.
use Rattle.std.specs.Prelude.{ℕ, codes, List, [], ◌++◌, option_map, slice_get, unwrap_or}
use Rattle.gs_counts.specs.declared.kind.Kind.{Kind}
use Rattle.gs_counts.specs.declared.kind.Kind.TheVariants.{RpcsHeard, New, Duplicates, Ignored, Rejected, Signed, OffTopic, PayloadBytesNew, PayloadBytesAgain, SubscriptionsHeard, IhaveHeard, IdsOffered, IwantHeard, IdsAsked, GraftHeard, PruneHeard, RpcsSent, BytesSent, RawBytesSent, MessageBytesSent, ControlBytesSent, SubscriptionBytesSent, SubscriptionsSent, MessagesPushed, MessagesAnswered, IhaveSent, IdsOfferedSent, IwantSent, IdsAskedSent, GraftSent, PruneSent, RpcsGraylisted, RpcsLate, Faults, GraftRefusedExplicit, GraftRefusedBackoff, GraftRefusedScore, GraftRefusedFull, IdsNotSentScore, IdsNotSentTooOften, IdsNotSentNotKept, PromisesBroken, RefusedLines, Delivered, Grafted, GraftedByNeighbour, GraftedByHeartbeat, Pruned, PrunedByNeighbour, PrunedByHeartbeat, PrunedByLoss}
use Rattle.gs_sheets.specs.declared.sheet.Column.{Column as SheetColumn}
use Rattle.gs_figure_sheets.specs.declared.figure.Figure.{Figure}
use Rattle.gs_figure_sheets.specs.declared.figure.Figure.TheVariants.{Of, BytesHeard, RawBytesHeard, SmallestMesh, LargestMesh, LowestScore, HighestScore, LowestInRun, LowestAt, LowestOf}
use Rattle.gs_figure_sheets.specs.declared.party.Party.{Party}

-- ---- counts

-- the name of a count's column in CSV and JSON
abbrev pub kind_name : Kind → List ℕ
kind_name RpcsHeard = codes "rpcs_heard"
kind_name New = codes "new"
kind_name Duplicates = codes "duplicates"
kind_name Ignored = codes "ignored"
kind_name Rejected = codes "rejected"
kind_name Signed = codes "signed"
kind_name OffTopic = codes "off_topic"
kind_name PayloadBytesNew = codes "payload_bytes_new"
kind_name PayloadBytesAgain = codes "payload_bytes_again"
kind_name SubscriptionsHeard = codes "subscriptions_heard"
kind_name IhaveHeard = codes "ihave_heard"
kind_name IdsOffered = codes "ids_offered"
kind_name IwantHeard = codes "iwant_heard"
kind_name IdsAsked = codes "ids_asked"
kind_name GraftHeard = codes "graft_heard"
kind_name PruneHeard = codes "prune_heard"
kind_name RpcsSent = codes "rpcs_sent"
kind_name BytesSent = codes "bytes_sent"
kind_name RawBytesSent = codes "raw_bytes_sent"
kind_name MessageBytesSent = codes "message_bytes_sent"
kind_name ControlBytesSent = codes "control_bytes_sent"
kind_name SubscriptionBytesSent = codes "subscription_bytes_sent"
kind_name SubscriptionsSent = codes "subscriptions_sent"
kind_name MessagesPushed = codes "messages_pushed"
kind_name MessagesAnswered = codes "messages_answered"
kind_name IhaveSent = codes "ihave_sent"
kind_name IdsOfferedSent = codes "ids_offered_sent"
kind_name IwantSent = codes "iwant_sent"
kind_name IdsAskedSent = codes "ids_asked_sent"
kind_name GraftSent = codes "graft_sent"
kind_name PruneSent = codes "prune_sent"
kind_name RpcsGraylisted = codes "rpcs_graylisted"
kind_name RpcsLate = codes "rpcs_late"
kind_name Faults = codes "faults"
kind_name GraftRefusedExplicit = codes "graft_refused_explicit"
kind_name GraftRefusedBackoff = codes "graft_refused_backoff"
kind_name GraftRefusedScore = codes "graft_refused_score"
kind_name GraftRefusedFull = codes "graft_refused_full"
kind_name IdsNotSentScore = codes "ids_not_sent_score"
kind_name IdsNotSentTooOften = codes "ids_not_sent_too_often"
kind_name IdsNotSentNotKept = codes "ids_not_sent_not_kept"
kind_name PromisesBroken = codes "promises_broken"
kind_name RefusedLines = codes "refused_lines"
kind_name Delivered = codes "delivered"
kind_name Grafted = codes "grafted"
kind_name GraftedByNeighbour = codes "grafted_by_neighbour"
kind_name GraftedByHeartbeat = codes "grafted_by_heartbeat"
kind_name Pruned = codes "pruned"
kind_name PrunedByNeighbour = codes "pruned_by_neighbour"
kind_name PrunedByHeartbeat = codes "pruned_by_heartbeat"
kind_name PrunedByLoss = codes "pruned_by_loss"

-- the header of a count's column in a table for a person
abbrev pub kind_header : Kind → List ℕ
kind_header RpcsHeard = codes "RPCs"
kind_header New = codes "new"
kind_header Duplicates = codes "duplicates"
kind_header Ignored = codes "ignored"
kind_header Rejected = codes "rejected"
kind_header Signed = codes "signed"
kind_header OffTopic = codes "off topic"
kind_header PayloadBytesNew = codes "new bytes"
kind_header PayloadBytesAgain = codes "other bytes"
kind_header SubscriptionsHeard = codes "subscriptions"
kind_header IhaveHeard = codes "IHAVE"
kind_header IdsOffered = codes "ids offered"
kind_header IwantHeard = codes "IWANT"
kind_header IdsAsked = codes "ids asked"
kind_header GraftHeard = codes "GRAFT"
kind_header PruneHeard = codes "PRUNE"
kind_header RpcsSent = codes "RPCs"
kind_header BytesSent = codes "bytes"
kind_header RawBytesSent = codes "raw bytes"
kind_header MessageBytesSent = codes "message bytes"
kind_header ControlBytesSent = codes "control bytes"
kind_header SubscriptionBytesSent = codes "subscription bytes"
kind_header SubscriptionsSent = codes "subscriptions"
kind_header MessagesPushed = codes "pushed"
kind_header MessagesAnswered = codes "answered"
kind_header IhaveSent = codes "IHAVE"
kind_header IdsOfferedSent = codes "ids offered"
kind_header IwantSent = codes "IWANT"
kind_header IdsAskedSent = codes "ids asked"
kind_header GraftSent = codes "GRAFT"
kind_header PruneSent = codes "PRUNE"
kind_header RpcsGraylisted = codes "graylisted"
kind_header RpcsLate = codes "late"
kind_header Faults = codes "faults"
kind_header GraftRefusedExplicit = codes "GRAFT: explicit"
kind_header GraftRefusedBackoff = codes "GRAFT: backoff"
kind_header GraftRefusedScore = codes "GRAFT: score"
kind_header GraftRefusedFull = codes "GRAFT: full"
kind_header IdsNotSentScore = codes "ids not sent: score"
kind_header IdsNotSentTooOften = codes "ids not sent: too often"
kind_header IdsNotSentNotKept = codes "ids not sent: not kept"
kind_header PromisesBroken = codes "broke promises"
kind_header RefusedLines = codes "refused lines"
kind_header Delivered = codes "delivered"
kind_header Grafted = codes "came into mesh"
kind_header GraftedByNeighbour = codes "grafted by its GRAFT"
kind_header GraftedByHeartbeat = codes "grafted by heartbeat"
kind_header Pruned = codes "left mesh"
kind_header PrunedByNeighbour = codes "pruned by its PRUNE"
kind_header PrunedByHeartbeat = codes "pruned by heartbeat"
kind_header PrunedByLoss = codes "pruned by loss"

-- ---- figures

abbrev pub figure_name : Figure → List ℕ
figure_name (Of kind) = kind_name kind
figure_name BytesHeard = codes "bytes_heard"
figure_name RawBytesHeard = codes "raw_bytes_heard"
figure_name SmallestMesh = codes "smallest_mesh"
figure_name LargestMesh = codes "largest_mesh"
figure_name LowestScore = codes "lowest_score"
figure_name HighestScore = codes "highest_score"
figure_name LowestInRun = codes "lowest_in_run"
figure_name LowestAt = codes "lowest_at_ms"
figure_name (LowestOf place) = codes "lowest_score_"

abbrev pub figure_header : Figure → List ℕ
figure_header (Of kind) = kind_header kind
figure_header BytesHeard = codes "bytes"
figure_header RawBytesHeard = codes "raw bytes"
figure_header SmallestMesh = codes "smallest mesh"
figure_header LargestMesh = codes "largest mesh"
figure_header LowestScore = codes "lowest score"
figure_header HighestScore = codes "highest score"
figure_header LowestInRun = codes "lowest in run"
figure_header LowestAt = codes "lowest at ms"
figure_header (LowestOf place) = codes "lowest of "

-- the name of the group at an index, or the empty name if there is none
abbrev pub party_name : List Party → ℕ → List ℕ
party_name parties place = unwrap_or (option_map (λ (x : Party). x.name) (slice_get parties place)) []

-- what follows the words of a figure: the name of its group, or nothing
abbrev pub figure_end : List Party → Figure → List ℕ
figure_end parties (Of kind) = []
figure_end parties BytesHeard = []
figure_end parties RawBytesHeard = []
figure_end parties SmallestMesh = []
figure_end parties LargestMesh = []
figure_end parties LowestScore = []
figure_end parties HighestScore = []
figure_end parties LowestInRun = []
figure_end parties LowestAt = []
figure_end parties (LowestOf place) = party_name parties place

abbrev pub figure_column : List Party → Figure → SheetColumn
figure_column parties figure = record {
  name = figure_name figure ++ figure_end parties figure;
  header = figure_header figure ++ figure_end parties figure;
}
