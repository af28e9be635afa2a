-- The shape of a sheet.
use Rattle.std.specs.Prelude.{◌≡◌, List, length, map}
use Rattle.std.specs.List.{AllByRecursion, IsDistinct}
use Rattle.gs_rules.specs.Rules.{same_bytes}
use Rattle.gs_sheets.specs.declared.sheet.Column.{Column}
use Rattle.gs_sheets.specs.declared.sheet.Sheet.{Sheet}
use Rattle.gs_sheets.specs.declared.sheet.Value.{Value}
use Rattle.gs_figure_sheets.specs.Parties.{GroupWish}

-- each row has a value for each column
abbrev pub IsFilled : Sheet → Type 0
IsFilled s = AllByRecursion (λ (row : List Value). length row ≡ length s.columns) s.rows

-- no two columns have the same header
abbrev pub HasOwnHeaders : Sheet → Type 0
HasOwnHeaders s = IsDistinct same_bytes (map (λ (c : Column). c.header) s.columns)

-- no two groups have the same name
abbrev pub HaveOwnNames : List GroupWish → Type 0
HaveOwnNames groups = IsDistinct same_bytes (map (λ (g : GroupWish). g.name) groups)
