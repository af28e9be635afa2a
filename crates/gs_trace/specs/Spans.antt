-- How an argument spells rounds: `A..B`, two decimal numbers.
use Rattle.std.specs.Prelude.{ℕ, nat_le, nat_lt, ◌*◌, ◌+◌, ◌-◌, ◌^◌, ◌==◌, if◌then◌else◌, List, [], ◌∷◌, Option, Some, None}
use Rattle.gs_trace.specs.declared.wanted.RoundSpan.{RoundSpan}
use Rattle.gs_trace.specs.declared.spans.Reading.{Reading}
use Rattle.gs_trace.specs.declared.spans.Reading.TheVariants.{Nothing, First, Dot, Dots, Last}

-- a number with one more decimal digit, if the byte is a digit and the number fits
abbrev pub with_digit : ℕ → ℕ → Option ℕ
with_digit number byte =
    if nat_lt byte 48 then None
    else if nat_lt 57 byte then None
    else if nat_lt (number * 10 + (byte - 48)) (2 ^ 64) then Some (number * 10 + (byte - 48))
    else None

abbrev pub first_of : Option ℕ → Option Reading
first_of None = None
first_of (Some number) = Some (First number)

abbrev pub last_of : ℕ → Option ℕ → Option Reading
last_of first None = None
last_of first (Some number) = Some (Last first number)

-- what was read after one more byte
abbrev pub after_byte : Reading → ℕ → Option Reading
after_byte Nothing byte = first_of (with_digit 0 byte)
after_byte (First first) byte = if byte == 46 then Some (Dot first) else first_of (with_digit first byte)
after_byte (Dot first) byte = if byte == 46 then Some (Dots first) else None
after_byte (Dots first) byte = last_of first (with_digit 0 byte)
after_byte (Last first last) byte = last_of first (with_digit last byte)

-- the rounds that were read, if both numbers were read and the first is at most the last
abbrev pub in_order : Reading → Option RoundSpan
in_order Nothing = None
in_order (First first) = None
in_order (Dot first) = None
in_order (Dots first) = None
in_order (Last first last) = if nat_le first last then Some (record { first = first; last = last }) else None

-- what some bytes spell, after what was read before them
abbrev pub read_from : Option Reading → List ℕ → Option RoundSpan
read_from None bytes = None
read_from (Some reading) [] = in_order reading
read_from (Some reading) (byte ∷ bytes) = read_from (after_byte reading byte) bytes

abbrev pub rounds_in : List ℕ → Option RoundSpan
rounds_in text = read_from (Some Nothing) text
