-- Sheets of figures: one sheet for all sections, or one for each section.
use Rattle.std.specs.Prelude.{ℕ, codes, List, [], ◌∷◌, ◌++◌, length, map}
use Rattle.gs_sheets.specs.declared.sheet.Sheet.{Sheet}
use Rattle.gs_figure_sheets.specs.declared.columns.Column.{Column}
use Rattle.gs_figure_sheets.specs.declared.columns.Column.TheVariants.{Peer, Round, Topic, From, To}
use Rattle.gs_figure_sheets.specs.declared.figure.Figure.{Figure}
use Rattle.gs_figure_sheets.specs.declared.figures.Line.{Line}
use Rattle.gs_figure_sheets.specs.declared.party.Party.{Party}
use Rattle.gs_figure_sheets.specs.declared.section.Section.{Section}
use Rattle.gs_figure_sheets.specs.declared.section.Section.TheVariants.{Heard, Sent, Nothing, State}
use Rattle.gs_figure_sheets.specs.declared.wanted.Layout.{Layout}
use Rattle.gs_figure_sheets.specs.declared.wanted.Layout.TheVariants.{Person, Data}
use Rattle.gs_figure_sheets.specs.declared.wanted.Subject.{Subject}
use Rattle.gs_figure_sheets.specs.declared.wanted.Subject.TheVariants.{Run, Rounds, Topics, Links}
use Rattle.gs_figure_sheets.specs.Columns.{column_of}
use Rattle.gs_figure_sheets.specs.Figures.{figure_column}
use Rattle.gs_figure_sheets.specs.Rows.{line_row}
use Rattle.gs_figure_sheets.specs.Sections.{all_sections, section_figures, whole_figures}

-- ---- names and titles

abbrev pub section_name : Section → List ℕ
section_name Heard = codes "heard"
section_name Sent = codes "sent"
section_name Nothing = codes "nothing"
section_name State = codes "state"

abbrev pub subject_name : Subject → List ℕ
subject_name Run = codes "peers"
subject_name Rounds = codes "rounds"
subject_name Topics = codes "topics"
subject_name Links = codes "links"

-- the line above a table of one section
abbrev pub peers_title : Section → List ℕ
peers_title Heard = codes "What each peer heard"
peers_title Sent = codes "What each peer sent"
peers_title Nothing = codes "What came to nothing, and why"
peers_title State = codes "Deliveries, meshes and scores"

abbrev pub rounds_title : Section → List ℕ
rounds_title Heard = codes "What was heard in each round"
rounds_title Sent = codes "What was sent in each round"
rounds_title Nothing = codes "What came to nothing in each round, and why"
rounds_title State = codes "Deliveries, meshes and scores in each round"

abbrev pub topics_title : Section → List ℕ
topics_title Heard = codes "What was heard on each topic"
topics_title Sent = codes "What was sent on each topic"
topics_title Nothing = codes "What came to nothing on each topic, and why"
topics_title State = codes "Deliveries and meshes on each topic"

abbrev pub links_title : Section → List ℕ
links_title Heard = codes "What was heard over each link"
links_title Sent = codes "What was sent over each link"
links_title Nothing = codes "What came to nothing over each link, and why"
links_title State = codes "Who came into whose mesh, and left it"

abbrev pub section_title : Subject → Section → List ℕ
section_title Run section = peers_title section
section_title Rounds section = rounds_title section
section_title Topics section = topics_title section
section_title Links section = links_title section

-- the line above a table of all sections
abbrev pub whole_title : Subject → List ℕ
whole_title Run = codes "What each peer did"
whole_title Rounds = codes "What happened in each round"
whole_title Topics = codes "What happened on each topic"
whole_title Links = codes "What happened over each link"

-- ---- sheets

-- the columns that say what a row is about
abbrev pub label_columns : Subject → List Column
label_columns Run = Peer ∷ []
label_columns Rounds = Round ∷ []
label_columns Topics = Topic ∷ []
label_columns Links = From ∷ To ∷ []

-- how many of these columns hold names
abbrev pub name_columns : Subject → ℕ
name_columns Run = 1
name_columns Rounds = 0
name_columns Topics = 1
name_columns Links = 2

-- a sheet of these figures
unfoldable pub figure_sheet : Subject → List Party → List Line → (name title : List ℕ) → List Figure → Sheet
figure_sheet subject parties lines name title figures = record {
  name = name;
  title = title;
  columns = map column_of (label_columns subject) ++ map (figure_column parties) figures;
  names = name_columns subject;
  rows = map (line_row figures) lines;
}

abbrev pub section_sheet : Subject → List Party → List Line → Section → Sheet
section_sheet subject parties lines section =
    figure_sheet subject parties lines (section_name section) (section_title subject section)
    (section_figures subject (length parties) section)

abbrev pub whole_sheet : Subject → List Party → List Line → Sheet
whole_sheet subject parties lines =
    figure_sheet subject parties lines (subject_name subject) (whole_title subject) (whole_figures subject (length parties))

-- one sheet for each section for a person, and one for all sections for a program
abbrev pub figure_pages : Layout → Subject → List Party → List Line → List Sheet
figure_pages Person subject parties lines = map (section_sheet subject parties lines) all_sections
figure_pages Data subject parties lines = whole_sheet subject parties lines ∷ []
