-- How a refusal of a scenario is printed, and how a refusal of the code agrees with one of a definition.
use Rattle.std.specs.Prelude.{◌≡◌, ℕ, ◌+◌, ◌++◌, decimal, codes, List, [], Option, Some, None, Result, Ok, Err}
use Rattle.gs_scenario.specs.declared.fault.ScenarioFault.{ScenarioFault}
use Rattle.gs_scenario.specs.declared.fault.ScenarioFault.TheVariants.{Toml, UnknownKey, Missing, Range, UnknownName, Repeated, NoMemory, Params}
use Rattle.gs_scenario.specs.declared.reason.Found.{Found}
use Rattle.gs_scenario.specs.declared.reason.Found.TheVariants as found
use Rattle.gs_params.specs.Params as params
use Rattle.toml.specs.Data.{Data, string, integer, float, boolean, datetime, array, table, Items, no_items, item}

abbrev pub item_count : Items → ℕ
item_count no_items = 0
item_count (item d ds) = item_count ds + 1

-- how a refusal describes a value
abbrev pub found_of : Data → Found
found_of (string text) = found.Text text
found_of (integer z) = found.Number z
found_of (float x) = found.Float
found_of (boolean b) = found.TruthValue b
found_of (datetime time) = found.Date
found_of (array ds) = found.List (item_count ds)
found_of (table entries) = found.Table

-- the numbers of refusals, as docs/REFUSALS.md lists them
abbrev pub number_of : ScenarioFault → ℕ
number_of (Params fault) = params.number_of fault
number_of Toml = 26
number_of (UnknownKey place kind) = 27
number_of (Missing place) = 28
number_of (Range place found wanted) = 29
number_of (UnknownName place name kind) = 30
number_of (Repeated place) = 31
number_of NoMemory = 32

-- the place that is refused; three refusals have none
abbrev pub place_of : ScenarioFault → Option (List ℕ)
place_of (Params fault) = None
place_of Toml = None
place_of (UnknownKey place kind) = Some place
place_of (Missing place) = Some place
place_of (Range place found wanted) = Some place
place_of (UnknownName place name kind) = Some place
place_of (Repeated place) = Some place
place_of NoMemory = None

-- a place after a space
abbrev pub spaced : Option (List ℕ) → List ℕ
spaced None = []
spaced (Some place) = codes " " ++ place

-- the number, and the place where there is one
abbrev pub refusal_text : ScenarioFault → List ℕ
refusal_text fault = decimal (number_of fault) ++ spaced (place_of fault)

-- the code's refusal is that of a definition, unless it is out of memory
abbrev pub Refuses : {B : Type 0} → ScenarioFault → Result B ScenarioFault → Type 0
Refuses (Params fault) said = said ≡ Err (Params fault)
Refuses Toml said = said ≡ Err Toml
Refuses (UnknownKey place kind) said = said ≡ Err (UnknownKey place kind)
Refuses (Missing place) said = said ≡ Err (Missing place)
Refuses (Range place found wanted) said = said ≡ Err (Range place found wanted)
Refuses (UnknownName place name kind) said = said ≡ Err (UnknownName place name kind)
Refuses (Repeated place) said = said ≡ Err (Repeated place)
Refuses NoMemory said = Unit {0}

-- the view of a call's result is what a definition says, unless the call was out of memory
abbrev pub Gives : {A B : Type 0} → (A → B) → Result A ScenarioFault → Result B ScenarioFault → Type 0
Gives view (Ok x) said = said ≡ Ok (view x)
Gives view (Err fault) said = Refuses fault said

-- the result of a call is just what a definition says, unless the call was out of memory
abbrev pub GivesSame : {A : Type 0} → Result A ScenarioFault → Result A ScenarioFault → Type 0
GivesSame = Gives (λ x. x)
