-- Each row of each sheet has a value for each column.
use Rattle.std.proofs.Common.{◌≡◌, ℕ, ◌+◌, List, [], ◌∷◌, ◌++◌, length, map, refl, sym, ap, ap₂, ◌∙◌}
use Rattle.std.specs.Prelude.{Option, None, Some}
use Rattle.std.specs.List.{AllByRecursion, flat_map}
use Rattle.std.proofs.lemmas.List.{length-append, length-map}
use Rattle.gs_counts.specs.declared.run.LinkCounts.{LinkCounts}
use Rattle.gs_counts.specs.declared.run.RoundCounts.{RoundCounts}
use Rattle.gs_counts.specs.Runs.{run_counts}
use Rattle.gs_opinions.specs.declared.run.Opinions.{Opinions}
use Rattle.gs_opinions.specs.declared.run.RoundOpinions.{RoundOpinions}
use Rattle.gs_opinions.specs.Runs.{opinions_of}
use Rattle.gs_plan.specs.declared.plan.Plan.{Plan}
use Rattle.gs_reach.specs.declared.chosen.Chosen.{Chosen}
use Rattle.gs_reach.specs.declared.distribution.Distribution.{Distribution}
use Rattle.gs_reach.specs.declared.messages.MessageReach.{MessageReach}
use Rattle.gs_reach.specs.Chosen.{accepted_pairs, chosen_messages}
use Rattle.gs_reach.specs.Reached.{distribution}
use Rattle.gs_report.specs.declared.report.Report.{Report}
use Rattle.gs_rules.proofs.Each.{each_mapped, of_each}
use Rattle.gs_sheets.specs.declared.sheet.Sheet.{Sheet}
use Rattle.gs_sheets.specs.declared.sheet.Value.{Value}
use Rattle.gs_figure_sheets.specs.declared.figure.Figure.{Figure}
use Rattle.gs_figure_sheets.specs.declared.figures.Line.{Line}
use Rattle.gs_figure_sheets.specs.declared.figures.PeerFigures.{PeerFigures}
use Rattle.gs_figure_sheets.specs.declared.found.Found.{Found}
use Rattle.gs_figure_sheets.specs.declared.inquiry.Inquiry.{Inquiry}
use Rattle.gs_figure_sheets.specs.declared.party.Party.{Party}
use Rattle.gs_figure_sheets.specs.declared.wanted.Layout.{Layout}
use Rattle.gs_figure_sheets.specs.declared.wanted.Layout.TheVariants.{Person, Data}
use Rattle.gs_figure_sheets.specs.declared.wanted.Subject.{Subject}
use Rattle.gs_figure_sheets.specs.declared.wanted.Subject.TheVariants.{Run, Rounds, Topics, Links}
use Rattle.gs_figure_sheets.specs.Columns.{column_of, group_columns, limit_columns, message_columns, spread_columns}
use Rattle.gs_figure_sheets.specs.FigureSheets.{dealt_in, found_of, lines_of_peers, sheets_for, sheets_of, sheets_with}
use Rattle.gs_figure_sheets.specs.Figures.{figure_column}
use Rattle.gs_figure_sheets.specs.Groups.{Dealt, group_pages, group_row, group_sheet, rows_from}
use Rattle.gs_figure_sheets.specs.Lines.{all_line, figures_of_peers, link_line, links_at, opinions_in, party_line, peer_line, peer_lines, round_line, round_with, round_without, topic_line}
use Rattle.gs_figure_sheets.specs.Pages.{figure_pages, figure_sheet, label_columns, section_name, section_sheet, section_title, subject_name, whole_title}
use Rattle.gs_figure_sheets.specs.Reach.{limit_rows, limit_sheet, message_row, message_sheet, sheets_among, spread_row, spread_sheet, within_row}
use Rattle.gs_figure_sheets.specs.Rows.{label_value, line_row, value_of}
use Rattle.gs_figure_sheets.specs.Sections.{all_sections, section_figures, whole_figures}
use Rattle.gs_figure_sheets.specs.Shapes.{IsFilled}

-- ---- lists

-- what holds of each of two lists holds of each of both
pub both : {A : Type 0} (P : A → Type 0) (xs ys : List A) → AllByRecursion P xs → AllByRecursion P ys → AllByRecursion P (xs ++ ys)
both P [] ys one other = other
both P (x ∷ xs) ys one other = (one.0, both P xs ys one.1 other)

-- what holds of each that any makes
of_all : {A B : Type 0} (P : B → Type 0) (f : A → List B) → ((x : A) → AllByRecursion P (f x)) → (xs : List A) → AllByRecursion P (flat_map f xs)
of_all P f each [] = tt
of_all P f each (x ∷ xs) = both P (f x) (flat_map f xs) (each x) (of_all P f each xs)

-- what holds of what anything is mapped to
pub mapped : {A B : Type 0} (P : B → Type 0) (f : A → B) → ((x : A) → P (f x)) → (xs : List A) → AllByRecursion P (map f xs)
mapped P f each xs = each_mapped P f xs (of_each (λ x. P (f x)) each xs)

-- ---- sheets of figures

-- a line is of as many labels as its subject has columns of labels
abbrev IsLabelled : Subject → Line → Type 0
IsLabelled subject line = length line.labels ≡ length (label_columns subject)

columns_count : (subject : Subject) (parties : List Party) (figures : List Figure)
    → length (map column_of (label_columns subject) ++ map (figure_column parties) figures) ≡ length (label_columns subject) + length figures
columns_count subject parties figures =
    length-append (map column_of (label_columns subject)) (map (figure_column parties) figures)
    ∙ ap₂ (λ (m n : ℕ). m + n) (length-map (label_columns subject) column_of) (length-map figures (figure_column parties))

row_count : (figures : List Figure) (line : Line) → length (line_row figures line) ≡ length line.labels + length figures
unfolding line_row
row_count figures line =
    length-append (map label_value line.labels) (map (value_of line) figures)
    ∙ ap₂ (λ (m n : ℕ). m + n) (length-map line.labels label_value) (length-map figures (value_of line))

rows_filled : (subject : Subject) (parties : List Party) (figures : List Figure) (lines : List Line) → AllByRecursion (IsLabelled subject) lines
    → AllByRecursion (λ (row : List Value). length row ≡ length (map column_of (label_columns subject) ++ map (figure_column parties) figures)) (map (line_row figures) lines)
rows_filled subject parties figures [] labelled = tt
rows_filled subject parties figures (line ∷ lines) labelled = (
  row_count figures line ∙ ap (λ (m : ℕ). m + length figures) labelled.0 ∙ sym (columns_count subject parties figures),
  rows_filled subject parties figures lines labelled.1,
)

sheet_filled : (subject : Subject) (parties : List Party) (lines : List Line) → AllByRecursion (IsLabelled subject) lines
    → (name title : List ℕ) (figures : List Figure) → IsFilled (figure_sheet subject parties lines name title figures)
unfolding figure_sheet
sheet_filled subject parties lines labelled name title figures = rows_filled subject parties figures lines labelled

pages_filled : (layout : Layout) (subject : Subject) (parties : List Party) (lines : List Line) → AllByRecursion (IsLabelled subject) lines
    → AllByRecursion IsFilled (figure_pages layout subject parties lines)
pages_filled Person subject parties lines labelled =
    mapped IsFilled (section_sheet subject parties lines) (λ section. sheet_filled subject parties lines labelled (section_name section) (section_title subject section) (section_figures subject (length parties) section)) all_sections
pages_filled Data subject parties lines labelled =
    (sheet_filled subject parties lines labelled (subject_name subject) (whole_title subject) (whole_figures subject (length parties)), tt)

-- ---- lines

peers_labelled : (plan : Plan) (parties : List Party) (rows : List PeerFigures) → AllByRecursion (IsLabelled Run) (peer_lines plan parties rows)
peers_labelled plan parties rows =
    both (IsLabelled Run) (map (peer_line plan) rows ++ map (party_line rows) parties) (all_line rows ∷ [])
    (both (IsLabelled Run) (map (peer_line plan) rows) (map (party_line rows) parties)
    (mapped (IsLabelled Run) (peer_line plan) (λ row. refl) rows)
    (mapped (IsLabelled Run) (party_line rows) (λ g. refl) parties))
    (refl, tt)

round_labelled : (opinions : Opinions) (x : RoundCounts) → IsLabelled Rounds (round_line opinions x)
round_labelled opinions x = by (opinions_in opinions x.round)
  where
    by : (o : Option RoundOpinions) → IsLabelled Rounds (elim o [ None ↦ round_without x | Some given ↦ round_with x given ])
    by None = refl
    by (Some given) = refl

-- ---- sheets of messages

messages_filled : (plan : Plan) (ms : List MessageReach) → IsFilled (message_sheet plan ms)
unfolding message_sheet message_row message_columns
messages_filled plan ms = mapped (λ (row : List Value). length row ≡ 13) (message_row plan) (λ m. refl) ms

limits_filled : (d : Distribution) → IsFilled (limit_sheet d)
unfolding limit_sheet limit_rows limit_columns
limits_filled d =
    both (λ (row : List Value). length row ≡ 4) (map (within_row d.pairs) d.within) _
    (mapped (λ (row : List Value). length row ≡ 4) (within_row d.pairs) (λ w. refl) d.within)
    (refl, (refl, tt))

spread_filled : (d : Distribution) → IsFilled (spread_sheet d)
unfolding spread_sheet spread_row spread_columns
spread_filled d = (refl, tt)

reach_filled : (plan : Plan) (by among : Chosen) (ms : List MessageReach) → AllByRecursion IsFilled (sheets_among plan by among ms)
reach_filled plan by among ms =
    (messages_filled plan (chosen_messages by among ms), (limits_filled (distribution (accepted_pairs by among ms)), (spread_filled (distribution (accepted_pairs by among ms)), tt)))

-- ---- groups

groups_filled : (d : Dealt) (parties : List Party) → IsFilled (group_sheet d parties)
unfolding group_sheet group_row group_columns
groups_filled d parties =
    of_all (λ (row : List Value). length row ≡ 16) (rows_from d parties)
    (λ from. mapped (λ (row : List Value). length row ≡ 16) (group_row d from) (λ to. refl) parties) parties

group_pages_filled : (d : Dealt) (parties : List Party) → AllByRecursion IsFilled (group_pages d parties)
group_pages_filled d [] = tt
group_pages_filled d (first ∷ more) = (groups_filled d (first ∷ more), tt)

-- ---- all

run_filled : (plan : Plan) (q : Inquiry) (found : Found) → AllByRecursion IsFilled (sheets_with plan q found)
run_filled plan q found =
    let reach : List Sheet = sheets_among plan q.by q.among found.messages in
    let peers : List Sheet = figure_pages q.layout Run q.parties (lines_of_peers plan q found) in
    let labelled : AllByRecursion (IsLabelled Run) (lines_of_peers plan q found) = peers_labelled plan q.parties (figures_of_peers found.known q.among found.standings) in
    both IsFilled (reach ++ peers) (group_pages (dealt_in found) q.parties)
    (both IsFilled reach peers (reach_filled plan q.by q.among found.messages) (pages_filled q.layout Run q.parties (lines_of_peers plan q found) labelled))
    (group_pages_filled (dealt_in found) q.parties)

by_subject : (subject : Subject) (plan : Plan) (q : Inquiry) (report : Report) → AllByRecursion IsFilled (sheets_for subject plan q report)
by_subject Run plan q report = run_filled plan q (found_of plan report q.among)
by_subject Rounds plan q report =
    let opinions : Opinions = opinions_of plan report q.among q.groups in
    let rounds : List RoundCounts = (run_counts plan report q.among).rounds in
    pages_filled q.layout Rounds q.parties (map (round_line opinions) rounds) (mapped (IsLabelled Rounds) (round_line opinions) (round_labelled opinions) rounds)
by_subject Topics plan q report =
    pages_filled q.layout Topics [] (map topic_line (run_counts plan report q.among).topics) (mapped (IsLabelled Topics) topic_line (λ x. refl) (run_counts plan report q.among).topics)
by_subject Links plan q report =
    let links : List LinkCounts = links_at q.among (run_counts plan report q.among).links in
    pages_filled q.layout Links [] (map (link_line plan) links) (mapped (IsLabelled Links) (link_line plan) (λ x. refl) links)

pub filled : (plan : Plan) (q : Inquiry) (report : Report) → AllByRecursion IsFilled (sheets_of plan q report)
filled plan q report = by_subject q.subject plan q report
