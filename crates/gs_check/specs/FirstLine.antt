-- The first line of a refusal: its number and its place.
use Rattle.std.specs.Prelude.{ℕ, ◌==◌, ◌++◌, ◌||◌, Bool, not, nat_lt, List, [], ◌∷◌, codes, decimal, option_map, if◌then◌else◌}
use Rattle.std.specs.List.{flat_map}
use Rattle.hex.specs.Hex.{encode_lower}
use Rattle.gs_scenario.specs.declared.fault.ScenarioFault.{ScenarioFault}
use Rattle.gs_scenario.specs.Refusal.{number_of, place_of, spaced}

-- says whether a byte is a control character, which could end a line
abbrev pub is_control : ℕ → Bool
is_control byte = nat_lt byte 32 || byte == 127

abbrev pub is_plain : ℕ → Bool
is_plain byte = not (is_control byte)

-- a byte as it is shown: a control character is shown in hexadecimal digits, such as `\x0a`
abbrev pub shown_byte : ℕ → List ℕ
shown_byte byte = if is_control byte then codes "\\x" ++ encode_lower (byte ∷ []) else byte ∷ []

abbrev pub shown : List ℕ → List ℕ
shown text = flat_map shown_byte text

-- the number, and after a space the place as it is shown, where there is one
abbrev pub first_line : ScenarioFault → List ℕ
first_line fault = decimal (number_of fault) ++ spaced (option_map shown (place_of fault))
