-- The keys of a table, each by one line that says its name, whether it is required, and its kind.
use Rattle.std.specs.Prelude.{ℕ, ◌++◌, Bool, nat_eq, List, [], ◌∷◌, Option, Some, None, Result, Ok, Err, if◌then◌else◌}
use Rattle.std.specs.List.{list_any}
use Rattle.std.specs.Cmp.Lexicographic.{pointwise}
use Rattle.toml.specs.Data.{Data, Members, no_members, member, get_member, Items, no_items, item}
use Rattle.gs_scenario.specs.declared.fault.ScenarioFault.{ScenarioFault}
use Rattle.gs_scenario.specs.declared.fault.ScenarioFault.TheVariants.{UnknownKey, Missing}
use Rattle.gs_scenario.specs.declared.scenario.tables.TableKind.{TableKind}

-- the second step, if the first refused nothing
infixl 10 ◌>>=◌
abbrev pub ◌>>=◌ : {A B : Type 0} → Result A ScenarioFault → (A → Result B ScenarioFault) → Result B ScenarioFault
(Ok x) >>= f = f x
(Err fault) >>= f = Err fault

-- the value, or this refusal where there is none
abbrev pub or_refuse : {A : Type 0} → ScenarioFault → Option A → Result A ScenarioFault
or_refuse fault None = Err fault
or_refuse fault (Some x) = Ok x

-- the value, or this refusal where a test holds
abbrev pub refuse_if : {A : Type 0} → Bool → ScenarioFault → A → Result A ScenarioFault
refuse_if test fault x = if test then Err fault else Ok x

-- A kind of value: how the value at a place is read.
abbrev pub Kind : Type 0 → Type 0
Kind A = List ℕ → Data → Result A ScenarioFault

-- A key: its name, and how the value that the table holds there is read.
pub record Key (A : Type 0) : Type 0 where
  pub name : List ℕ
  pub reads : List ℕ → Option Data → Result A ScenarioFault

abbrev pub reads_required : {A : Type 0} → Kind A → List ℕ → Option Data → Result A ScenarioFault
reads_required kind place found = or_refuse (Missing place) found >>= kind place

abbrev pub reads_optional : {A : Type 0} → Kind A → A → List ℕ → Option Data → Result A ScenarioFault
reads_optional kind default place None = Ok default
reads_optional kind default place (Some d) = kind place d

abbrev pub required : {A : Type 0} → List ℕ → Kind A → Key A
required name kind = record { name = name; reads = reads_required kind }

abbrev pub optional : {A : Type 0} → List ℕ → Kind A → A → Key A
optional name kind default = record { name = name; reads = reads_optional kind default }

-- A table of the scenario: its members, and the front of the places of its keys.
pub record Section : Type 0 where
  pub path : List ℕ
  pub members : Members

-- what a table holds at a key
abbrev pub read_key : {A : Type 0} → Section → Key A → Result A ScenarioFault
read_key section key = key.reads (section.path ++ key.name) (get_member key.name section.members)

abbrev pub is_one_of : List (List ℕ) → List ℕ → Bool
is_one_of names name = list_any (λ known. pointwise nat_eq known name) names

-- the first key, in the order of its bytes, that is none of these
abbrev pub first_unknown : List (List ℕ) → Members → Option (List ℕ)
first_unknown known no_members = None
first_unknown known (member key d rest) = if is_one_of known key then first_unknown known rest else Some key

abbrev pub refuse_unknown : List ℕ → TableKind → Option (List ℕ) → Result (Unit {0}) ScenarioFault
refuse_unknown path kind None = Ok tt
refuse_unknown path kind (Some key) = Err (UnknownKey (path ++ key) kind)

-- a table of this kind has no other keys
unfoldable pub only : TableKind → List (List ℕ) → Section → Result (Unit {0}) ScenarioFault
only kind known section = refuse_unknown section.path kind (first_unknown known section.members)

-- the elements of a list in their order; each is read with the elements before it
unfoldable pub read_each : {A : Type 0} → (List A → Data → Result A ScenarioFault) → List A → Items
    → Result (List A) ScenarioFault
read_each read before no_items = Ok before
read_each read before (item d ds) = do
  x ← read before d
  read_each read (before ++ x ∷ []) ds
