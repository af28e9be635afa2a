-- Tables of texts. A table is a list of rows, a row a list of cells, and a cell a text. The first row is the header, and
-- the columns are those that it has.
use Rattle.std.specs.Prelude.{ℕ, ◌+◌, ◌-◌, max, nat_lt, ◌==◌, if◌then◌else◌, Bool, List, [], ◌∷◌, ◌++◌, codes, fold, length, map, slice_get, unwrap_or}
use Rattle.std.specs.List.{enumerate_from, flat_map, repeat}
use Rattle.gs_sheets.specs.declared.table.Layout.{Layout}
use Rattle.gs_sheets.specs.declared.table.Place.{Place}

-- ---- widths

-- the greatest of numbers, and 0 where there are none
abbrev pub greatest : List ℕ → ℕ
greatest = fold max 0

-- how long the cell of a row in a column is; where the row has none, 0
abbrev pub cell_width : ℕ → List (List ℕ) → ℕ
cell_width column row = length (unwrap_or (slice_get row column) [])

-- the width of a column is the greatest length of a cell in it
abbrev pub width_of : List (List (List ℕ)) → ℕ → ℕ
width_of rows column = greatest (map (cell_width column) rows)

-- the widths of the columns that a header has
abbrev pub widths : List (List ℕ) → List (List (List ℕ)) → List ℕ
widths header rows = map (λ x. width_of rows x.0) (enumerate_from 0 header)

abbrev pub width_at : Layout → ℕ → ℕ
width_at layout column = unwrap_or (slice_get layout.widths column) 0

-- ---- cells

abbrev pub spaces : ℕ → List ℕ
spaces n = repeat n (codes " ")

-- what stands before a cell: nothing at a line's begin, and two spaces between columns
abbrev pub gap : ℕ → List ℕ
gap column = if column == 0 then [] else codes "  "

-- a cell that stands to the left of its column; no space follows the last one of a line
abbrev pub to_the_left : ℕ → Bool → List ℕ → List ℕ
to_the_left width is_last cell = if is_last then cell else cell ++ spaces (width - length cell)

-- a cell that stands to the right of its column
abbrev pub to_the_right : ℕ → List ℕ → List ℕ
to_the_right width cell = spaces (width - length cell) ++ cell

-- a cell at its place in a line: names stand to the left, and numbers to the right
abbrev pub cell_text : Layout → Place → List ℕ → List ℕ
cell_text layout place cell =
    gap place.column
    ++ (if nat_lt place.column layout.names then to_the_left (width_at layout place.column) place.is_last cell
    else to_the_right (width_at layout place.column) cell)

-- ---- rows

-- the place of a column in a line of `count` columns
abbrev pub place_in : ℕ → ℕ → Place
place_in count column = record { column = column; is_last = column + 1 == count }

abbrev pub row_text : Layout → List (List ℕ) → List ℕ
row_text layout row =
    flat_map (λ x. cell_text layout (place_in (length row) x.0) x.1) (enumerate_from 0 row) ++ codes "\n"

-- the layout of a table with names in its first `names` columns
abbrev pub layout_of : ℕ → List (List ℕ) → List (List (List ℕ)) → Layout
layout_of names header rows = record { widths = widths header rows; names = names }

abbrev pub table_text : ℕ → List (List (List ℕ)) → List ℕ
table_text names [] = []
table_text names (header ∷ rows) =
    flat_map (row_text (layout_of names header (header ∷ rows))) (header ∷ rows)
