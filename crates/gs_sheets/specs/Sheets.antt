-- The texts of sheets: as CSV, as JSON, and as tables for a person.
use Rattle.std.specs.Prelude.{ℕ, nat_lt, ◌==◌, if◌then◌else◌, List, [], ◌∷◌, ◌++◌, codes, length, map, slice_get, unwrap_or, option_map}
use Rattle.std.specs.List.{enumerate_from, flat_map}
use Rattle.gs_sheets.specs.declared.sheet.Column.{Column}
use Rattle.gs_sheets.specs.declared.sheet.Sheet.{Sheet}
use Rattle.gs_sheets.specs.declared.sheet.Value.{Value}
use Rattle.gs_sheets.specs.Tables.{table_text}
use Rattle.gs_sheets.specs.Texts.{csv_value, json_value, table_value}

-- ---- CSV

-- a comma before each except the first
abbrev pub comma : ℕ → List ℕ
comma place = if place == 0 then [] else codes ","

abbrev pub csv_columns : List Column → List ℕ
csv_columns columns = flat_map (λ x. comma x.0 ++ x.1.name) (enumerate_from 0 columns) ++ codes "\n"

abbrev pub csv_row : List Value → List ℕ
csv_row row = flat_map (λ x. comma x.0 ++ csv_value x.1) (enumerate_from 0 row) ++ codes "\n"

-- a header, and a line for each row
abbrev pub sheet_csv : Sheet → List ℕ
sheet_csv s = csv_columns s.columns ++ flat_map csv_row s.rows

-- an empty line stands before each except the first
abbrev pub between : ℕ → List ℕ
between place = if place == 0 then [] else codes "\n"

abbrev pub sheets_csv : List Sheet → List ℕ
sheets_csv sheets = flat_map (λ x. between x.0 ++ sheet_csv x.1) (enumerate_from 0 sheets)

-- ---- JSON

-- the name of the column at a place, and the empty one where there is none
abbrev pub column_name : List Column → ℕ → List ℕ
column_name columns place = unwrap_or (option_map (λ (c : Column). c.name) (slice_get columns place)) []

abbrev pub json_member : List Column → ℕ × Value → List ℕ
json_member columns x = comma x.0 ++ codes "\"" ++ column_name columns x.0 ++ codes "\":" ++ json_value x.1

abbrev pub json_row : List Column → List Value → List ℕ
json_row columns row = codes "{" ++ flat_map (json_member columns) (enumerate_from 0 row) ++ codes "}"

-- a line's end before each row, and a comma before that, except at the first row
abbrev pub json_line : List Column → ℕ × List Value → List ℕ
json_line columns x = comma x.0 ++ codes "\n" ++ json_row columns x.1

-- a member of an object: the name of the sheet, and the list of its rows
abbrev pub sheet_json : ℕ × Sheet → List ℕ
sheet_json x =
    comma x.0 ++ codes "\n\"" ++ x.1.name ++ codes "\":["
    ++ flat_map (json_line x.1.columns) (enumerate_from 0 x.1.rows) ++ codes "\n]"

abbrev pub sheets_json : List Sheet → List ℕ
sheets_json sheets = codes "{" ++ flat_map sheet_json (enumerate_from 0 sheets) ++ codes "\n}\n"

-- ---- tables for a person

abbrev pub table_header : List Column → List (List ℕ)
table_header columns = map (λ (c : Column). c.header) columns

abbrev pub table_row : List Value → List (List ℕ)
table_row row = map table_value row

-- a table that has no row says so
abbrev pub table_of : Sheet → List ℕ
table_of s =
    if length s.rows == 0 then codes "none\n"
    else table_text s.names (table_header s.columns ∷ map table_row s.rows)

abbrev pub sheet_table : Sheet → List ℕ
sheet_table s = s.title ++ codes "\n" ++ table_of s

-- at its place among others
unfoldable pub placed_table : ℕ × Sheet → List ℕ
placed_table x = between x.0 ++ sheet_table x.1

abbrev pub sheets_table : List Sheet → List ℕ
sheets_table sheets = flat_map placed_table (enumerate_from 0 sheets)
