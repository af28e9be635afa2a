-- The columns of sheets: the name of each, and its header in a table for a person.
use Rattle.std.specs.Prelude.{ℕ, codes, List, [], ◌∷◌}
use Rattle.gs_sheets.specs.declared.sheet.Column.{Column as SheetColumn}
use Rattle.gs_figure_sheets.specs.declared.columns.Column.{Column}
use Rattle.gs_figure_sheets.specs.declared.columns.Column.TheVariants.{Topic, Payload, Publisher, Verdict, Publishers, At, Subscribers, Reached, Missed, First, Median, Ninetieth, NinetyNinth, Last, Outcome, Within, Pairs, Share, Peer, Round, From, To, Rpcs, Bytes, MeshMembers, MeshPlaces, LowestScore, LowestInRun, LowestAt}

-- the name of a column in CSV and JSON
abbrev pub column_name : Column → List ℕ
column_name Topic = codes "topic"
column_name Payload = codes "payload"
column_name Publisher = codes "publisher"
column_name Verdict = codes "verdict"
column_name Publishers = codes "publishers"
column_name At = codes "at_ms"
column_name Subscribers = codes "subscribers"
column_name Reached = codes "reached"
column_name Missed = codes "missed"
column_name First = codes "first_round"
column_name Median = codes "median_round"
column_name Ninetieth = codes "round_90"
column_name NinetyNinth = codes "round_99"
column_name Last = codes "last_round"
column_name Outcome = codes "outcome"
column_name Within = codes "within_rounds"
column_name Pairs = codes "pairs"
column_name Share = codes "share"
column_name Peer = codes "peer"
column_name Round = codes "round"
column_name From = codes "from"
column_name To = codes "to"
column_name Rpcs = codes "rpcs_sent"
column_name Bytes = codes "bytes_sent"
column_name MeshMembers = codes "mesh_members"
column_name MeshPlaces = codes "mesh_places"
column_name LowestScore = codes "lowest_score"
column_name LowestInRun = codes "lowest_in_run"
column_name LowestAt = codes "lowest_at_ms"

-- the header of a column in a table for a person
abbrev pub header_text : Column → List ℕ
header_text Topic = codes "topic"
header_text Payload = codes "payload"
header_text Publisher = codes "from"
header_text Verdict = codes "verdict"
header_text Publishers = codes "publishers"
header_text At = codes "at_ms"
header_text Subscribers = codes "subscribers"
header_text Reached = codes "reached"
header_text Missed = codes "missed"
header_text First = codes "first"
header_text Median = codes "median"
header_text Ninetieth = codes "90%"
header_text NinetyNinth = codes "99%"
header_text Last = codes "last"
header_text Outcome = codes "outcome"
header_text Within = codes "within rounds"
header_text Pairs = codes "pairs"
header_text Share = codes "% of pairs"
header_text Peer = codes "peer"
header_text Round = codes "round"
header_text From = codes "from"
header_text To = codes "to"
header_text Rpcs = codes "RPCs"
header_text Bytes = codes "bytes"
header_text MeshMembers = codes "mesh places held"
header_text MeshPlaces = codes "mesh places"
header_text LowestScore = codes "lowest score"
header_text LowestInRun = codes "lowest in run"
header_text LowestAt = codes "lowest at ms"

abbrev pub column_of : Column → SheetColumn
column_of column = record { name = column_name column; header = header_text column }

-- the columns of the sheets of messages, of limits of rounds, and of parts of all subscribers
unfoldable pub message_columns : List Column
message_columns =
    Topic ∷ Payload ∷ Publisher ∷ Verdict
    ∷ Publishers ∷ At ∷ Subscribers ∷ Reached ∷ Missed ∷ First ∷ Median ∷ Ninetieth ∷ Last ∷ []

unfoldable pub limit_columns : List Column
limit_columns = Outcome ∷ Within ∷ Pairs ∷ Share ∷ []

unfoldable pub spread_columns : List Column
spread_columns = Pairs ∷ First ∷ Median ∷ Ninetieth ∷ NinetyNinth ∷ Last ∷ []

-- the columns of the sheet of groups
unfoldable pub group_columns : List Column
group_columns =
    From ∷ To ∷ Pairs ∷ Reached ∷ Missed ∷ Share ∷ Median ∷ Ninetieth ∷ Last
    ∷ Rpcs ∷ Bytes ∷ MeshMembers ∷ MeshPlaces ∷ LowestScore ∷ LowestInRun ∷ LowestAt ∷ []
