-- How a text is shown between quotes or backquotes.
use Rattle.std.specs.Prelude.{ℕ, ◌==◌, ◌++◌, ◌&&◌, Bool, not, nat_le, nat_lt, List, codes, length, Option, Some, None, if◌then◌else◌}
use Rattle.std.specs.List.{list_all}

-- says whether a byte is a printing character of ASCII, and no quote, backslash or backquote
abbrev pub is_plain : ℕ → Bool
is_plain byte = ((nat_le 32 byte && nat_lt byte 127) && not (byte == 34)) && (not (byte == 92) && not (byte == 96))

-- a text is plain if it has at most 60 such bytes, and no others
abbrev pub is_plain_text : List ℕ → Bool
is_plain_text text = nat_le (length text) 60 && list_all is_plain text

-- A plain text is shown unchanged, between two of these marks. This says nothing about other texts.
abbrev pub between : List ℕ → List ℕ → Option (List ℕ)
between mark text = if is_plain_text text then Some (mark ++ text ++ mark) else None

abbrev pub quoted : List ℕ → Option (List ℕ)
quoted text = between (codes "\"") text

abbrev pub ticked : List ℕ → Option (List ℕ)
ticked text = between (codes "`") text
