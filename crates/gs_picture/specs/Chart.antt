-- The chart: the share of its subscribers that each message reached within each number of rounds, and the share for all
-- messages together.
use Rattle.std.specs.Prelude.{ℕ, ◌+◌, ◌-◌, ◌*◌, ◌/◌, max, nat_le, nat_lt, if◌then◌else◌, List, [], ◌∷◌, ◌++◌, codes, decimal, length, Option}
use Rattle.std.specs.List.{flat_map}
use Rattle.gs_reach.specs.declared.distribution.Within.{Within}
use Rattle.gs_reach.specs.declared.pairs.Pair.{Pair}
use Rattle.gs_reach.specs.Reached.{missed}
use Rattle.gs_picture.specs.declared.chart.Axis.{Axis}
use Rattle.gs_picture.specs.declared.courses.Courses.{Courses}
use Rattle.gs_picture.specs.Courses.{longest, steps}
use Rattle.gs_picture.specs.Texts.{among_text}
use Rattle.gs_picture.specs.declared.pieces.Piece.TheVariants.{TextEnds, TagEnds}
use Rattle.gs_picture.specs.declared.pieces.Part.TheVariants.{ChartHead, ChartHeadEnds, MissedBegins, MissedOf, MissedEnds, LevelBegins, LevelLabel, LevelEnds, TickBegins, TickLabel, TickText, CourseBegins, CourseLine, CourseEnds}
use Rattle.gs_picture.specs.Pieces.{chart_words, part, piece}

-- ---- axes

-- where they meet, and how far they go
abbrev pub left : ℕ
left = 60

abbrev pub bottom : ℕ
bottom = 940

abbrev pub wide : ℕ
wide = 800

abbrev pub tall : ℕ
tall = 200

-- how many rounds may lie between two ticks
unfoldable pub spacings : List ℕ
spacings = 1 ∷ 2 ∷ 5 ∷ 10 ∷ 20 ∷ 50 ∷ 100 ∷ 200 ∷ 500 ∷ 1_000 ∷ 2_000 ∷ 5_000 ∷ 10_000 ∷ []

-- the first of these that is more than a tenth of a number, or 20,000 where there is none
abbrev pub first_above : ℕ → List ℕ → ℕ
first_above n [] = 20_000
first_above n (k ∷ ks) = if nat_lt n (10 * k) then k else first_above n ks

-- The axis of rounds ends one round after the slowest delivery, and at round 10 at the earliest. At most ten ticks follow
-- the first.
abbrev pub axis_to : ℕ → Axis
axis_to rounds = record { end = max 10 (rounds + 1); spacing = first_above rounds spacings }

-- where a round lies from the left
abbrev pub across : Axis → ℕ → ℕ
across axis round = left + (wide * round) / max 1 axis.end

-- how far from the top the share of `reached` in `count` subscribers lies
abbrev pub up : ℕ → ℕ → ℕ
up count reached = bottom - (tall * reached) / max 1 count

-- the line of this many quarters
abbrev pub level_text : ℕ → List ℕ
level_text quarters =
    part LevelBegins ++ decimal (bottom - 50 * quarters) ++ part LevelLabel
    ++ decimal (bottom - 50 * quarters + 4) ++ piece TagEnds ++ decimal (25 * quarters) ++ part LevelEnds

-- the line of a number of rounds
abbrev pub tick_at : Axis → ℕ → List ℕ
tick_at axis round =
    part TickBegins ++ decimal (across axis round) ++ part TickLabel
    ++ decimal (across axis round) ++ part TickText ++ decimal round ++ piece TextEnds

-- the line of this many ticks, as far as the axis goes
abbrev pub tick_text : Axis → ℕ → List ℕ
tick_text axis ticks = if nat_le (axis.spacing * ticks) axis.end then tick_at axis (axis.spacing * ticks) else []

unfoldable pub levels : List ℕ
levels = 0 ∷ 1 ∷ 2 ∷ 3 ∷ 4 ∷ []

unfoldable pub ticks : List ℕ
ticks = 0 ∷ 1 ∷ 2 ∷ 3 ∷ 4 ∷ 5 ∷ 6 ∷ 7 ∷ 8 ∷ 9 ∷ 10 ∷ []

-- ---- lines

-- up to how many lines are drawn at full strength, and up to how many at half strength
abbrev pub few_lines : ℕ
few_lines = 8

abbrev pub some_lines : ℕ
some_lines = 40

-- how this many lines are drawn: the more there are, the paler they are
abbrev pub line_kind : ℕ → List ℕ
line_kind lines =
    if nat_le lines few_lines then codes "few" else if nat_le lines some_lines then codes "some" else codes "many"

-- the line goes on to a number of rounds, and up to how many of `count` subscribers were reached within it
abbrev pub step_text : Axis → ℕ → Within → List ℕ
step_text axis count x = codes "H" ++ decimal (across axis x.limit) ++ codes "V" ++ decimal (up count x.reached)

-- a line of a kind: the share of these subscribers that was reached within each number of rounds
abbrev pub line_text : Axis → List ℕ → List Pair → List ℕ
line_text axis kind pairs =
    part CourseBegins ++ kind ++ part CourseLine ++ flat_map (step_text axis (length pairs)) (steps pairs) ++ part CourseEnds

-- the thick line of all together, where there are any
abbrev pub whole_text : Axis → List Pair → List ℕ
whole_text axis [] = []
whole_text axis (x ∷ xs) = line_text axis (codes "all") (x ∷ xs)

-- ---- the chart

-- how many of these subscribers were not reached
abbrev pub missed_text : List Pair → List ℕ
missed_text pairs = part MissedBegins ++ decimal (missed pairs) ++ part MissedOf ++ decimal (length pairs) ++ part MissedEnds

-- what stands above the axes, with the names of the peers that count
abbrev pub chart_head : Option (List ℕ) → List Pair → List ℕ
chart_head names all = part ChartHead ++ among_text names ++ part ChartHeadEnds ++ chart_words ++ missed_text all

-- both axes, and their lines
abbrev pub axes_text : Axis → List ℕ
axes_text axis = flat_map level_text levels ++ flat_map (tick_text axis) ticks

-- the thick line, and on top of it a thin one for each message
abbrev pub lines_text : Axis → Courses → List ℕ
lines_text axis c = whole_text axis c.all ++ flat_map (line_text axis (line_kind (length c.each))) c.each

-- the chart on an axis
abbrev pub chart_on : Axis → Option (List ℕ) → Courses → List ℕ
chart_on axis names c = chart_head names c.all ++ axes_text axis ++ lines_text axis c

unfoldable pub chart_text : Option (List ℕ) → Courses → List ℕ
chart_text names c = chart_on (axis_to (longest c.all)) names c
