-- The texts of values: in CSV (RFC 4180), in JSON (RFC 8259) and in tables for a person.
use Rattle.std.specs.Prelude.{ℕ, ℤ, pos, int_lt, nat_lt, unsigned_abs, ◌+◌, ◌/◌, ◌%◌, ◌||◌, ◌==◌, if◌then◌else◌, List, [], ◌∷◌, ◌++◌, codes, decimal, length, take}
use Rattle.std.specs.List.{flat_map}
use Rattle.hex.specs.Hex.{encode_lower}
use Rattle.gs_report.specs.Text.{digit, score_text}
use Rattle.gs_sheets.specs.declared.sheet.Value.{Value}
use Rattle.gs_sheets.specs.declared.sheet.Value.TheVariants.{Name, Payload, Count, Whole, Score, Share, Missing}

-- ---- numbers

-- a whole number, with a sign below 0
abbrev pub signed : ℤ → List ℕ
signed z = (if int_lt z (pos 0) then codes "-" else []) ++ decimal (unsigned_abs z)

-- hundredths of a per cent, in per cent with two digits after the point
abbrev pub share_text : ℕ → List ℕ
share_text n = decimal (n / 100) ++ codes "." ++ digit n 10 ∷ digit n 1 ∷ []

-- ---- names

-- A byte of a text in quotes. A quote, a backslash and what is not printable ASCII are written as their numbers, in the form
-- of JSON, in CSV too.
abbrev pub escaped : ℕ → List ℕ
escaped byte =
    if nat_lt byte 32 || (nat_lt 126 byte || (byte == 34 || byte == 92)) then codes "\\u00" ++ encode_lower (byte ∷ []) else byte ∷ []

abbrev pub quoted : List ℕ → List ℕ
quoted name = codes "\"" ++ flat_map escaped name ++ codes "\""

-- A byte of a name in a table. What is not printable ASCII is written as its number, so that no name breaks a line. So is a
-- backslash, so that two cells are alike only where the names are.
abbrev pub printable : ℕ → List ℕ
printable byte =
    if nat_lt byte 32 || (nat_lt 126 byte || byte == 92) then codes "\\x" ++ encode_lower (byte ∷ []) else byte ∷ []

abbrev pub plain_name : List ℕ → List ℕ
plain_name name = flat_map printable name

-- a payload in a table: if it is longer than 8 bytes, only the first 8, and two dots
abbrev pub short_payload : List ℕ → List ℕ
short_payload payload = if nat_lt 8 (length payload) then encode_lower (take 8 payload) ++ codes ".." else encode_lower payload

-- ---- values

abbrev pub csv_value : Value → List ℕ
csv_value (Name name) = quoted name
csv_value (Payload payload) = codes "\"" ++ encode_lower payload ++ codes "\""
csv_value (Count n) = decimal n
csv_value (Whole z) = signed z
csv_value (Score z) = score_text z
csv_value (Share n) = share_text n
csv_value Missing = []

abbrev pub json_value : Value → List ℕ
json_value (Name name) = quoted name
json_value (Payload payload) = codes "\"" ++ encode_lower payload ++ codes "\""
json_value (Count n) = decimal n
json_value (Whole z) = signed z
json_value (Score z) = score_text z
json_value (Share n) = share_text n
json_value Missing = codes "null"

abbrev pub table_value : Value → List ℕ
table_value (Name name) = plain_name name
table_value (Payload payload) = short_payload payload
table_value (Count n) = decimal n
table_value (Whole z) = signed z
table_value (Score z) = score_text z
table_value (Share n) = share_text n
table_value Missing = codes "-"
