-- The picture of a run: the mesh edges of a topic at the end, the scores that some peers give each peer, and how many rounds
-- each accepted message on the topic took to reach those peers.
use Rattle.std.specs.Prelude.{ℕ, ◌+◌, ◌*◌, List, ◌++◌, length, Option}
use Rattle.gs_base.specs.declared.names.Topic.{Topic}
use Rattle.gs_plan.specs.declared.plan.Plan.{Plan}
use Rattle.gs_report.specs.declared.report.Report.{Report}
use Rattle.gs_reach.specs.declared.chosen.Chosen.{Chosen}
use Rattle.gs_reach.specs.Messages.{messages}
use Rattle.gs_figure_sheets.specs.Choices.{chosen_by}
use Rattle.gs_picture.specs.declared.courses.Courses.{Courses}
use Rattle.gs_picture.specs.Chart.{chart_text}
use Rattle.gs_picture.specs.Circle.{circle_text}
use Rattle.gs_picture.specs.Courses.{courses_of, on_topic}
use Rattle.gs_picture.specs.Discs.{discs}
use Rattle.gs_picture.specs.Edges.{edges}
use Rattle.gs_picture.specs.Frame.{height, lowered, opening, room_of, title_text, width}
use Rattle.gs_picture.specs.Legend.{legend_text}
use Rattle.gs_picture.specs.declared.pieces.Part.TheVariants.{GroupEnds, PictureEnds}
use Rattle.gs_picture.specs.Pieces.{part, style_text}
use Rattle.gs_picture.specs.Places.{are_named}
use Rattle.gs_picture.specs.Table.{table_text}

-- what stands above the circle
unfoldable pub upper_text : Plan → Topic → ℕ → List ℕ
upper_text plan t messages =
    opening (width (length plan.peers)) (height + 2 * room_of plan) ++ style_text ++ title_text plan t messages

-- the circle, by the scores that some peers give
unfoldable pub middle_text : Plan → Report → Topic → Chosen → List ℕ
middle_text plan report t of =
    lowered (room_of plan)
    ++ circle_text plan (length plan.peers) (edges report.peers.items t) (discs plan.params.thresholds of report.peers.items t)

-- what stands below the circle, with the names of those peers
unfoldable pub lower_text : Plan → Option (List ℕ) → Courses → List ℕ
lower_text plan names c =
    part GroupEnds ++ lowered (2 * room_of plan) ++ legend_text (are_named (length plan.peers)) names ++ chart_text names c
    ++ table_text (are_named (length plan.peers)) c.all ++ part PictureEnds

-- the picture by the scores that some peers give, and by the courses of messages to them
abbrev pub picture_by : Plan → Report → Topic → Option (List ℕ) → Chosen → Courses → List ℕ
picture_by plan report t names of c =
    upper_text plan t (length c.each) ++ middle_text plan report t of ++ lower_text plan names c

-- the picture of a topic, where only the peers of these names count, or all
abbrev pub picture : Plan → Report → Topic → Option (List ℕ) → List ℕ
picture plan report t names =
    picture_by plan report t names (chosen_by plan report names)
    (courses_of (chosen_by plan report names) (on_topic t (messages plan report)))
