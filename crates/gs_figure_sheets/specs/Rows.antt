-- The values in a row of figures, and the sums of several rows.
use Rattle.std.specs.Prelude.{ℕ, ℤ, int_lt, nat_lt, not, ◌&&◌, ◌||◌, Bool, if◌then◌else◌, List, ◌++◌, filter, fold, map, Option, None, Some, slice_get, unwrap_or}
use Rattle.std.specs.List.{list_any}
use Rattle.gs_counts.specs.declared.counts.Counts.{Counts}
use Rattle.gs_counts.specs.declared.span.Span.{Span}
use Rattle.gs_counts.specs.Meshes.{widened}
use Rattle.gs_counts.specs.Rows.{count_at, with_counts, no_counts, plus}
use Rattle.gs_opinions.specs.declared.opinion.Lowest.{Lowest}
use Rattle.gs_reach.specs.declared.chosen.Chosen.{Chosen}
use Rattle.gs_reach.specs.Chosen.{is_chosen}
use Rattle.gs_sheets.specs.declared.sheet.Value.{Value}
use Rattle.gs_sheets.specs.declared.sheet.Value.TheVariants.{Name, Count, Whole, Score, Missing}
use Rattle.gs_figure_sheets.specs.declared.figure.Figure.{Figure}
use Rattle.gs_figure_sheets.specs.declared.figure.Figure.TheVariants.{Of, BytesHeard, RawBytesHeard, SmallestMesh, LargestMesh, LowestScore, HighestScore, LowestInRun, LowestAt, LowestOf}
use Rattle.gs_figure_sheets.specs.declared.figures.Label.{Label}
use Rattle.gs_figure_sheets.specs.declared.figures.Label.TheVariants as labels
use Rattle.gs_figure_sheets.specs.declared.figures.Line.{Line}
use Rattle.gs_figure_sheets.specs.declared.figures.PeerFigures.{PeerFigures}
use Rattle.gs_figure_sheets.specs.declared.figures.RowFigures.{RowFigures}
use Rattle.gs_figure_sheets.specs.Reach.{count_or_none}

-- ---- values

abbrev pub whole_or_none : Option ℤ → Value
whole_or_none None = Missing
whole_or_none (Some z) = Whole z

abbrev pub score_or_none : Option ℤ → Value
score_or_none None = Missing
score_or_none (Some z) = Score z

-- the ends of a span
abbrev pub lowest_in : Option Span → Option ℤ
lowest_in None = None
lowest_in (Some span) = Some span.lowest

abbrev pub highest_in : Option Span → Option ℤ
highest_in None = None
highest_in (Some span) = Some span.highest

-- the lowest score, and when it was given
abbrev pub score_of : Option Lowest → Option ℤ
score_of None = None
score_of (Some lowest) = Some lowest.score

abbrev pub moment_of : Option Lowest → Option ℕ
moment_of None = None
moment_of (Some lowest) = Some lowest.at.0

-- the score at an index, if there is one
abbrev pub score_at : List (Option ℤ) → ℕ → Option ℤ
score_at scores place = unwrap_or (slice_get scores place) None

-- the value of a figure, from the figures of a row and the lowest scores of groups
abbrev pub value_in : RowFigures → List (Option ℤ) → Figure → Value
value_in figures groups (Of kind) = Count (count_at figures.counts kind)
value_in figures groups BytesHeard = Count figures.bytes_heard
value_in figures groups RawBytesHeard = Count figures.raw_bytes_heard
value_in figures groups SmallestMesh = whole_or_none (lowest_in figures.meshes)
value_in figures groups LargestMesh = whole_or_none (highest_in figures.meshes)
value_in figures groups LowestScore = score_or_none (lowest_in figures.scores)
value_in figures groups HighestScore = score_or_none (highest_in figures.scores)
value_in figures groups LowestInRun = score_or_none (score_of figures.lowest)
value_in figures groups LowestAt = count_or_none (moment_of figures.lowest)
value_in figures groups (LowestOf place) = score_or_none (score_at groups place)

-- the value of a figure in a row: missing if the row is about nobody
abbrev pub value_of : Line → Figure → Value
value_of line figure = elim line.figures [ None ↦ Missing | Some figures ↦ value_in figures line.groups figure ]

abbrev pub label_value : Label → Value
label_value (labels.Named name) = Name name
label_value (labels.Numbered n) = Count n

-- a row: what it is about, and then its figures
unfoldable pub line_row : List Figure → Line → List Value
line_row figures line = map label_value line.labels ++ map (value_of line) figures

-- ---- sums

-- figures in which each count is 0, and there is no mesh and no score
abbrev pub no_figures : RowFigures
no_figures = record {
  counts = no_counts;
  bytes_heard = 0;
  raw_bytes_heard = 0;
  meshes = None;
  scores = None;
  lowest = None;
}

-- figures with these counts, and nothing else
abbrev pub only_counts : Counts → RowFigures
only_counts counts = record {
  counts = counts;
  bytes_heard = 0;
  raw_bytes_heard = 0;
  meshes = None;
  scores = None;
  lowest = None;
}

-- the span that includes both
abbrev pub joined_spans : Option Span → Option Span → Option Span
joined_spans a None = a
joined_spans a (Some b) = widened (widened a b.lowest) b.highest

-- a score is lower than another, or equal and earlier
abbrev pub is_below : Lowest → Lowest → Bool
is_below a b = int_lt a.score b.score || (not (int_lt b.score a.score) && nat_lt a.at.0 b.at.0)

-- the lower one of two scores, or the earlier one if they are equal
abbrev pub lower : Option Lowest → Option Lowest → Option Lowest
lower None b = b
lower (Some a) None = Some a
lower (Some a) (Some b) = Some (if is_below b a then b else a)

abbrev pub joined : RowFigures → RowFigures → RowFigures
joined a b = record {
  counts = with_counts a.counts b.counts;
  bytes_heard = plus a.bytes_heard b.bytes_heard;
  raw_bytes_heard = plus a.raw_bytes_heard b.raw_bytes_heard;
  meshes = joined_spans a.meshes b.meshes;
  scores = joined_spans a.scores b.scores;
  lowest = lower a.lowest b.lowest;
}

-- the joined figures of the chosen ones among these peers
abbrev pub sum_of : Chosen → List PeerFigures → RowFigures
sum_of chosen rows =
    fold (λ sum (row : PeerFigures). joined sum row.figures) no_figures
    (filter (λ (row : PeerFigures). is_chosen chosen row.peer) rows)

-- some of these peers are chosen
abbrev pub has_chosen : Chosen → List PeerFigures → Bool
has_chosen chosen rows = list_any (λ (row : PeerFigures). is_chosen chosen row.peer) rows

-- the same, or None if no peer is chosen, because then not even a 0 is known
abbrev pub joined_of : Chosen → List PeerFigures → Option RowFigures
joined_of chosen rows = if has_chosen chosen rows then Some (sum_of chosen rows) else None
