-- The kinds of values that the keys of a scenario hold.
use Rattle.std.specs.Prelude.{ℕ, ◌-◌, ◌^◌, ◌++◌, ◌&&◌, ◌||◌, ◌==◌, ◌%◌, Bool, not, nat_le, nat_lt, length, decimal, codes, List, [], Option, Some, None, option_and_then, is_some, Result, Ok, Err, if◌then◌else◌, ℤ, pos, negsuc}
use Rattle.std.specs.List.{list_all}
use Rattle.toml.specs.Data.{Data, Items, as_integer, as_bool, as_str, as_table, as_array, Members}
use Rattle.hex.specs.declared.error.FromHexError.{FromHexError}
use Rattle.hex.specs.Hex.{decode_of}
use Rattle.gs_scenario.specs.declared.fault.ScenarioFault.{ScenarioFault}
use Rattle.gs_scenario.specs.declared.fault.ScenarioFault.TheVariants.{Range, UnknownName, Repeated}
use Rattle.gs_scenario.specs.declared.reason.Found.TheVariants.{Default}
use Rattle.gs_scenario.specs.declared.reason.NameKind.{NameKind}
use Rattle.gs_scenario.specs.declared.reason.Wanted.{Wanted}
use Rattle.gs_scenario.specs.declared.reason.Wanted.TheVariants as wanted
use Rattle.gs_scenario.specs.Refusal.{found_of, item_count}
use Rattle.gs_scenario.specs.Keys.{Kind, Key, Section, ◌>>=◌, or_refuse, refuse_if, read_each}
use Rattle.gs_params.specs.Params.{int_in_range}

-- the refusal of a value that is not the wanted one
abbrev pub out_of_range : List ℕ → Data → Wanted → ScenarioFault
out_of_range place d wanted = Range place (found_of d) wanted

-- the kind of the values that a function allows; any other value is out of range
abbrev pub kind_of : {A : Type 0} → Wanted → (Data → Option A) → Kind A
kind_of wanted value place d = or_refuse (out_of_range place d wanted) (value d)

-- a whole number from low to high
abbrev pub between : ℕ → ℕ → ℤ → Option ℕ
between low high (negsuc n) = None
between low high (pos n) = if nat_le low n && nat_le n high then Some n else None

abbrev pub whole_number : ℕ → ℕ → Kind ℕ
whole_number low high = kind_of (wanted.Number low high) (λ d. option_and_then (between low high) (as_integer d))

-- a whole number of either sign from low to high
abbrev pub int_between : ℤ → ℤ → ℤ → Option ℤ
int_between low high z = if int_in_range low high z then Some z else None

abbrev pub signed_number : ℤ → ℤ → Kind ℤ
signed_number low high = kind_of (wanted.SignedNumber low high) (λ d. option_and_then (int_between low high) (as_integer d))

abbrev pub truth_value : Kind Bool
truth_value = kind_of wanted.TruthValue as_bool

-- a list of low to high elements, which are read later
abbrev pub of_length : ℕ → ℕ → Items → Option Items
of_length low high ds = if nat_le low (item_count ds) && nat_le (item_count ds) high then Some ds else None

abbrev pub list_of : ℕ → ℕ → Kind Items
list_of low high = kind_of (wanted.Elements low high) (λ d. option_and_then (of_length low high) (as_array d))

-- a list of any length
abbrev pub any_list : Kind Items
any_list = kind_of wanted.List as_array

-- a table, whose keys are read later
abbrev pub any_table : Kind Members
any_table = kind_of wanted.Table as_table

-- a list of any length of values of a kind; a value of another kind is refused at the list's place
abbrev pub list_of_each : {A : Type 0} → Kind A → Kind (List A)
list_of_each kind place d = do
  ds ← any_list place d
  read_each (λ before. kind place) [] ds

-- a list of 32-bit words
abbrev pub words : Kind (List ℕ)
words = list_of_each (whole_number 0 (2 ^ 32 - 1))

-- any text, even an empty one
abbrev pub any_text : Kind (List ℕ)
any_text = kind_of wanted.Text as_str

-- an even number of hex digits, and the bytes for which they stand
abbrev pub ok_value : {A : Type 0} → Result A FromHexError → Option A
ok_value (Ok x) = Some x
ok_value (Err fault) = None

abbrev pub hex_text : Kind (List ℕ)
hex_text = kind_of wanted.Hex (λ d. option_and_then (λ text. ok_value (decode_of text)) (as_str d))

-- hex digits for at most this many bytes
abbrev pub short_hex : ℕ → Kind (List ℕ)
short_hex most place d = do
  bytes ← hex_text place d
  refuse_if (nat_lt most (length bytes)) (out_of_range place d (wanted.ShortHex most)) bytes

-- a name: 1 to 32 of `a` to `z`, `0` to `9`, `_` and `-`
abbrev pub is_name_byte : ℕ → Bool
is_name_byte b = (((nat_le 97 b && nat_le b 122) || (nat_le 48 b && nat_le b 57)) || b == 95) || b == 45

abbrev pub is_name : List ℕ → Bool
is_name text = (nat_le 1 (length text) && nat_le (length text) 32) && list_all is_name_byte text

abbrev pub if_name : List ℕ → Option (List ℕ)
if_name text = if is_name text then Some text else None

abbrev pub name_text : Kind (List ℕ)
name_text = kind_of wanted.Name (λ d. option_and_then if_name (as_str d))

-- a name that something of a kind has, and what has it
abbrev pub reference : {A : Type 0} → NameKind → (List ℕ → Option A) → Kind A
reference kind named place d = do
  text ← name_text place d
  or_refuse (UnknownName place text kind) (named text)

-- a name that nothing has yet
abbrev pub new_name : {A : Type 0} → (List ℕ → Option A) → Kind (List ℕ)
new_name named place d = do
  text ← name_text place d
  refuse_if (is_some (named text)) (Repeated place) text

-- one of the words of a script, and what it means
abbrev pub word : {A : Type 0} → (List ℕ → Option A) → Kind A
word meaning = kind_of wanted.Verb (λ d. option_and_then meaning (as_str d))

-- says whether a number is a multiple of a step
abbrev pub is_multiple : ℕ → ℕ → Bool
is_multiple step n = (n % step) == 0

abbrev pub multiple_of : ℕ → Kind ℕ → Kind ℕ
multiple_of step kind place d = do
  n ← kind place d
  refuse_if (not (is_multiple step n)) (out_of_range place d (wanted.Multiple step)) n

-- a key that must hold a multiple of a step; so must its default
abbrev pub reads_multiple : ℕ → Kind ℕ → ℕ → List ℕ → Option Data → Result ℕ ScenarioFault
reads_multiple step kind default place (Some d) = multiple_of step kind place d
reads_multiple step kind default place None =
    refuse_if (not (is_multiple step default)) (Range place (Default default) (wanted.Multiple step)) default

abbrev pub optional_multiple : ℕ → List ℕ → Kind ℕ → ℕ → Key ℕ
optional_multiple step name kind default = record { name = name; reads = reads_multiple step kind default }

-- the place of an element of a list; elements count from 0
abbrev pub element : List ℕ → ℕ → List ℕ
element list index = list ++ codes "[" ++ decimal index ++ codes "]"

-- an element that is a table
abbrev pub section_at : List ℕ → Members → Section
section_at place members = record { path = place ++ codes "."; members = members }

abbrev pub table_at : List ℕ → Data → Result Section ScenarioFault
table_at place d = do
  members ← any_table place d
  Ok (section_at place members)
