-- The table next to the chart where there are too many peers for names: how many pairs of a message and a subscriber were
-- reached within some numbers of rounds.
use Rattle.std.specs.Prelude.{ℕ, ◌-◌, ◌*◌, ◌/◌, Bool, max, if◌then◌else◌, List, [], ◌∷◌, ◌++◌, decimal, length}
use Rattle.gs_reach.specs.declared.distribution.Distribution.{Distribution}
use Rattle.gs_reach.specs.declared.distribution.Within.{Within}
use Rattle.gs_reach.specs.declared.pairs.Pair.{Pair}
use Rattle.gs_reach.specs.Reached.{distribution}
use Rattle.gs_picture.specs.declared.pieces.Piece.TheVariants.{TagEnds}
use Rattle.gs_picture.specs.declared.pieces.Part.TheVariants.{TableHead, TableHeadEnds, RowBegins, RowBar, RowBarTo, RowReached, RowShare, RowEnds}
use Rattle.gs_picture.specs.Pieces.{part, piece}

-- How far from the top a row stands that has this many rows below it. The last one stands near the axis of the chart.
abbrev pub down : ℕ → ℕ
down below = 936 - 15 * below

-- how many percent of `count` these are, rounded down
abbrev pub percent : ℕ → ℕ → ℕ
percent count part = (100 * part) / max 1 count

-- how a row begins: with a number of rounds
abbrev pub row_limit : ℕ → ℕ → List ℕ
row_limit y limit = part RowBegins ++ decimal y ++ piece TagEnds ++ decimal limit

-- a bar of one unit for each percent
abbrev pub row_bar : ℕ → ℕ → List ℕ
row_bar y share = part RowBar ++ decimal (y - 4) ++ part RowBarTo ++ decimal share

-- how many pairs were reached within these rounds, and how many percent they are
abbrev pub row_reached : ℕ → ℕ → ℕ → List ℕ
row_reached y reached share =
    part RowReached ++ decimal y ++ piece TagEnds ++ decimal reached ++ part RowShare ++ decimal share ++ part RowEnds

-- the row of a number of rounds, of `count` pairs, at a distance from the top
abbrev pub row_text : ℕ → ℕ → Within → List ℕ
row_text count y x =
    row_limit y x.limit ++ row_bar y (percent count x.reached) ++ row_reached y x.reached (percent count x.reached)

abbrev pub rows_text : ℕ → List Within → List ℕ
rows_text count [] = []
rows_text count (x ∷ xs) = row_text count (down (length xs)) x ++ rows_text count xs

-- what stands above the first row
abbrev pub table_head : ℕ → List ℕ
table_head rows = part TableHead ++ decimal (down rows - 4) ++ part TableHeadEnds

abbrev pub table_of : Distribution → List ℕ
table_of d = table_head (length d.within) ++ rows_text d.pairs d.within

-- the table of these pairs, where peers have no names
abbrev pub table_text : Bool → List Pair → List ℕ
table_text named pairs = if named then [] else table_of (distribution pairs)
