-- What stands in an argument `KEY=VALUE`, and the path that a key writes.
use Rattle.std.specs.Prelude.{ℕ, ◌==◌, ◌&&◌, ◌||◌, Bool, not, nat_lt, List, [], ◌∷◌, length, Option, Some, None, if◌then◌else◌}
use Rattle.std.specs.List.{list_all, before_first, after_first, position_or_len}
use Rattle.std.specs.Char.{is_ascii_alphanumeric}
use Rattle.std.specs.Str.{all_ascii_digits}
use Rattle.std.specs.Str.Parse.{digits_value}

-- ---- arguments

-- the byte of `=`
abbrev pub is_equals_sign : ℕ → Bool
is_equals_sign byte = byte == 61

-- the argument has an equals sign
abbrev pub is_edit : List ℕ → Bool
is_edit argument = nat_lt (position_or_len is_equals_sign argument) (length argument)

-- there is an argument, and each has an equals sign
abbrev pub are_edits : List (List ℕ) → Bool
are_edits arguments = not (length arguments == 0) && list_all is_edit arguments

-- what stands before the first equals sign, and after it
abbrev pub key_text : List ℕ → List ℕ
key_text argument = before_first is_equals_sign argument

abbrev pub value_text : List ℕ → List ℕ
value_text argument = after_first is_equals_sign argument

-- ---- keys

-- the parts with the byte before the first of them
abbrev pub onto_first : ℕ → List (List ℕ) → List (List ℕ)
onto_first byte [] = (byte ∷ []) ∷ []
onto_first byte (part ∷ parts) = (byte ∷ part) ∷ parts

-- what stands before, between and after the dots of a key
abbrev pub path_of : List ℕ → List (List ℕ)
path_of [] = [] ∷ []
path_of (byte ∷ bytes) = if byte == 46 then [] ∷ path_of bytes else onto_first byte (path_of bytes)

-- the byte of a letter, a digit, `_` or `-`
abbrev pub is_name_byte : ℕ → Bool
is_name_byte byte = (is_ascii_alphanumeric byte || byte == 95) || byte == 45

-- a name is some of those bytes
abbrev pub is_name : List ℕ → Bool
is_name part = not (length part == 0) && list_all is_name_byte part

-- a key is one name, or several with dots between them
abbrev pub is_key : List ℕ → Bool
is_key text = list_all is_name (path_of text)

-- the number that some decimal digits write
abbrev pub number_of : List ℕ → Option ℕ
number_of part = if not (length part == 0) && all_ascii_digits part then Some (digits_value 10 part) else None
