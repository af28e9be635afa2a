-- Summaries as a text for people: by peer, then by neighbour.
use Rattle.std.specs.Prelude.{ℕ, ℤ, pos, int_lt, nat_lt, Bool, true, false, if◌then◌else◌, List, [], ◌∷◌, ◌++◌, codes, decimal, filter, map, Option, Some, None}
use Rattle.std.specs.List.{flat_map}
use Rattle.gs_base.specs.declared.names.PeerNo.{PeerNo}
use Rattle.gs_base.specs.declared.names.Topic.{Topic}
use Rattle.gs_params.specs.declared.params.Params.{Params}
use Rattle.gs_params.specs.declared.params.Thresholds.{Thresholds}
use Rattle.gs_plan.specs.declared.plan.Plan.{Plan}
use Rattle.gs_report.specs.declared.finished.Finished.{Finished}
use Rattle.gs_report.specs.declared.report.Report.{Report}
use Rattle.gs_report.specs.Text.{name_of, score_text}
use Rattle.gs_trace.specs.Texts.{topic_text}
use Rattle.gs_snapshots.specs.declared.courses.Course.{Course}
use Rattle.gs_snapshots.specs.declared.courses.Crossing.{Crossing}
use Rattle.gs_snapshots.specs.declared.falls.Falls.{Falls}
use Rattle.gs_snapshots.specs.declared.falls.RefusedGrafts.{RefusedGrafts}
use Rattle.gs_snapshots.specs.declared.falls.UnansweredIds.{UnansweredIds}
use Rattle.gs_snapshots.specs.declared.snapshot.Snapshot.{Snapshot}
use Rattle.gs_snapshots.specs.declared.summary.Summary.{Summary}
use Rattle.gs_snapshots.specs.Loads.{Load, heaviest, part_word}
use Rattle.gs_snapshots.specs.Scores.{is_wanted_peer, wanted_neighbours}
use Rattle.gs_snapshots.specs.TraceSummaries.{summary_in}
use Rattle.gs_snapshots.specs.Wishes.{Wishes}

-- ---- below a bound

-- the word before the start, or before the end, of a time below a bound
abbrev pub side_word : Bool → List ℕ
side_word true = codes ", from "
side_word false = codes " to "

abbrev pub crossing_text : Crossing → List ℕ
crossing_text x = side_word x.is_below ++ decimal x.at.0 ++ codes " ms"

-- the score is still below the bound at the last moment
abbrev pub open_text : Bool → List ℕ
open_text true = codes " on"
open_text false = []

abbrev pub times_text : Course → List ℕ
times_text x = flat_map crossing_text x.crossings ++ open_text x.is_below

-- a line with a label and a text, or nothing if the text is empty
abbrev pub line_after : List ℕ → List ℕ → List ℕ
line_after label [] = []
line_after label (byte ∷ text) = codes "  " ++ label ++ (byte ∷ text) ++ codes "\n"

abbrev pub zero_line : Course → List ℕ
zero_line x = line_after (codes "below 0") (times_text x)

abbrev pub threshold_line : List ℕ → ℤ → Course → List ℕ
threshold_line name threshold x =
    line_after (codes "below " ++ name ++ codes " (" ++ score_text threshold ++ codes ")") (times_text x)

-- ---- the lowest score

abbrev pub topic_of_load : Option Topic → List ℕ
topic_of_load None = []
topic_of_load (Some t) = codes " on " ++ topic_text t

-- the part that adds least, and what it adds
abbrev pub load_text : Option Load → List ℕ
load_text None = []
load_text (Some x) =
    codes ": " ++ part_word x.part ++ topic_of_load x.topic ++ codes " weighs " ++ score_text x.amount

abbrev pub lowest_text : Params → Snapshot → List ℕ
lowest_text params s =
    codes "  lowest " ++ score_text s.parts.score ++ codes ", at " ++ decimal s.moment.at.0 ++ codes " ms"
    ++ load_text (heaviest params s) ++ codes "\n"

-- the lowest score, if it is below 0
abbrev pub lowest_if : Params → Snapshot → List ℕ
lowest_if params s = if int_lt s.parts.score (pos 0) then lowest_text params s else []

abbrev pub lowest_line : Params → Option Snapshot → List ℕ
lowest_line params None = []
lowest_line params (Some s) = lowest_if params s

-- ---- what had no effect

-- how often something had no effect, and why
pub record Count : Type 0 where
  pub number : ℕ
  pub word : List ℕ

abbrev pub is_any : Count → Bool
is_any x = nat_lt 0 x.number

abbrev pub count_text : Count → List ℕ
count_text x = decimal x.number ++ codes " " ++ x.word

abbrev pub comma_and : Count → List ℕ
comma_and x = codes ", " ++ count_text x

-- the comma after a text, if the text is not empty
abbrev pub comma_after : List ℕ → List ℕ
comma_after [] = []
comma_after (byte ∷ text) = codes ", "

-- the counts with commas between them
abbrev pub joined : List Count → List ℕ
joined [] = []
joined (x ∷ xs) = count_text x ++ flat_map comma_and xs

-- the counts that are not 0, on a line
abbrev pub counts_line : List ℕ → List Count → List ℕ
counts_line label xs = line_after label (joined (filter is_any xs))

abbrev pub of_word : ℕ → List ℕ → Count
of_word number word = record { number = number; word = word }

abbrev pub unheard_counts : Falls → List Count
unheard_counts x = of_word x.graylisted (codes "graylisted") ∷ of_word x.late (codes "late") ∷ []

abbrev pub graft_counts : RefusedGrafts → List Count
graft_counts x =
    of_word x.explicit (codes "explicit") ∷ of_word x.backoff (codes "backoff")
    ∷ of_word x.score (codes "score") ∷ of_word x.full (codes "full")
    ∷ []

abbrev pub request_counts : UnansweredIds → List Count
request_counts x =
    of_word x.score (codes "score") ∷ of_word x.too_often (codes "too_often") ∷ of_word x.not_kept (codes "not_kept") ∷ []

abbrev pub promise_counts : Falls → List Count
promise_counts x = of_word x.promises (codes "broken") ∷ []

abbrev pub falls_lines : Falls → List ℕ
falls_lines x =
    counts_line (codes "RPCs not heard: ") (unheard_counts x)
    ++ counts_line (codes "GRAFTs refused: ") (graft_counts x.grafts)
    ++ counts_line (codes "requested identifiers not answered: ") (request_counts x.requests)
    ++ counts_line (codes "promises: ") (promise_counts x)

-- ---- all of it

abbrev pub bounds_lines : Thresholds → Summary → List ℕ
bounds_lines t s =
    zero_line s.zero
    ++ threshold_line (codes "gossip_threshold") t.gossip_threshold s.gossip
    ++ threshold_line (codes "publish_threshold") t.publish_threshold s.publish
    ++ threshold_line (codes "graylist_threshold") t.graylist_threshold s.graylist

abbrev pub summary_lines : Params → Summary → List ℕ
summary_lines params s =
    bounds_lines params.thresholds s ++ lowest_line params s.lowest ++ falls_lines s.falls

-- the lines below a heading that names the peer and the neighbour, or nothing if there is no line
abbrev pub under_names : Plan → PeerNo → PeerNo → List ℕ → List ℕ
under_names plan p q [] = []
under_names plan p q (byte ∷ lines) =
    name_of plan p ++ codes " scores " ++ name_of plan q ++ codes "\n" ++ (byte ∷ lines)

abbrev pub summary_block : Plan → PeerNo → Summary → List ℕ
summary_block plan p s = under_names plan p s.neighbour (summary_lines plan.params s)

-- the summaries of a peer, for each wanted neighbour
abbrev pub summaries_of_peer : Wishes → Plan → PeerNo × Finished → List ℕ
summaries_of_peer w plan x = flat_map
    (summary_block plan x.0)
    (map (summary_in w.rounds plan x.0 x.1.trace) (wanted_neighbours w plan x.0))

-- a text, or the line that says that there is nothing to report
abbrev pub or_nothing : List ℕ → List ℕ
or_nothing [] = codes "no neighbour scored below 0, and nothing came to nothing\n"
or_nothing (byte ∷ text) = byte ∷ text

-- the summaries of each peer that is wanted
abbrev pub summary_text : Wishes → Plan → Report → List ℕ
summary_text w plan report =
    or_nothing (flat_map (summaries_of_peer w plan) (filter (is_wanted_peer w plan) report.peers.items))
