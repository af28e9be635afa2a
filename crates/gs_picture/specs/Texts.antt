-- The small parts of a picture's text, which is XML.
use Rattle.std.specs.Prelude.{ℕ, ◌==◌, nat_le, nat_lt, ◌||◌, if◌then◌else◌, List, [], ◌∷◌, ◌++◌, codes, decimal, length, take, Option, Some, None}
use Rattle.std.specs.List.{flat_map}
use Rattle.hex.specs.Hex.{encode_lower}
use Rattle.gs_picture.specs.declared.places.Point.{Point}

-- A byte that no XML may have, or that is a part of a longer character, stands as its number.
abbrev pub unmarked : ℕ → List ℕ
unmarked byte = if nat_lt byte 32 || nat_lt 126 byte then codes "\\x" ++ encode_lower (byte ∷ []) else byte ∷ []

-- one that begins markup or ends a value stands as its reference
abbrev pub escaped : ℕ → List ℕ
escaped byte =
    if byte == 38 then codes "&amp;"
    else if byte == 60 then codes "&lt;"
    else if byte == 62 then codes "&gt;"
    else if byte == 34 then codes "&quot;"
    else if byte == 39 then codes "&apos;"
    else unmarked byte

abbrev pub escaped_all : List ℕ → List ℕ
escaped_all bytes = flat_map escaped bytes

-- a place: how far from the left, and how far from above
abbrev pub place_text : Point → List ℕ
place_text p = decimal p.x ++ codes " " ++ decimal p.y

-- up to how many bytes of the names of peers stand in a picture
abbrev pub most_names : ℕ
most_names = 32

abbrev pub shortened : List ℕ → List ℕ
shortened names =
    if nat_le (length names) most_names then escaped_all names else escaped_all (take most_names names) ++ codes ".."

-- which peers count, by their names, where not all do
abbrev pub among_text : Option (List ℕ) → List ℕ
among_text None = []
among_text (Some names) = codes " among " ++ shortened names
