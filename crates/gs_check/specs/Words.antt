-- What the program says about a refusal, as far as that is fixed: about a key that is not known.
use Rattle.std.specs.Prelude.{◌≡◌, ⊤, ℕ, ◌==◌, ◌++◌, Bool, true, nat_lt, List, codes, length, Option, Some, None, if◌then◌else◌}
use Rattle.std.specs.List.{after_first, position_or_len}
use Rattle.gs_scenario.specs.declared.fault.ScenarioFault.{ScenarioFault}
use Rattle.gs_scenario.specs.declared.fault.ScenarioFault.TheVariants.{Toml, UnknownKey, Missing, Range, UnknownName, Repeated, NoMemory, Params}
use Rattle.gs_scenario.specs.declared.scenario.tables.TableKind.{TableKind}
use Rattle.gs_scenario.specs.declared.scenario.tables.TableKind.TheVariants as kinds
use Rattle.gs_scenario.specs.PlanOf.{known_keys}
use Rattle.gs_check.specs.Near.{IsNearestOf}
use Rattle.gs_check.specs.Shown.{is_plain_text}

-- a place between backquotes, unchanged
abbrev pub plain_place : List ℕ → List ℕ
plain_place place = codes "`" ++ place ++ codes "`"

-- the byte of `.`
abbrev pub is_point : ℕ → Bool
is_point byte = byte == 46

-- what follows the first point of a place, and the whole place where it has none
abbrev pub key_of : List ℕ → List ℕ
key_of place = if nat_lt (position_or_len is_point place) (length place) then after_first is_point place else place

-- the key that a place names in a table of this kind; a key of the top table may have points
abbrev pub key_in : TableKind → List ℕ → List ℕ
key_in kinds.Top place = place
key_in kinds.Params place = key_of place
key_in kinds.Topic place = key_of place
key_in kinds.Peer place = key_of place
key_in kinds.Dial place = key_of place
key_in kinds.App place = key_of place
key_in kinds.Explicit place = key_of place
key_in kinds.SubscriptionLine place = key_of place
key_in kinds.PublishLine place = key_of place
key_in kinds.RawLine place = key_of place
key_in kinds.HangUpLine place = key_of place

abbrev pub table_words : TableKind → List ℕ
table_words kinds.Top = codes "the top table"
table_words kinds.Params = codes "`[params]`"
table_words kinds.Topic = codes "a `[[topic]]`"
table_words kinds.Peer = codes "a `[[peer]]`"
table_words kinds.Dial = codes "a `[[dial]]`"
table_words kinds.App = codes "an `[[app]]`"
table_words kinds.Explicit = codes "an `[[explicit]]`"
table_words kinds.SubscriptionLine = codes "a `[[do]]` that subscribes or unsubscribes"
table_words kinds.PublishLine = codes "a `[[do]]` that publishes"
table_words kinds.RawLine = codes "a `[[do]]` that sends raw bytes"
table_words kinds.HangUpLine = codes "a `[[do]]` that hangs up"

abbrev pub suggestion : Option (List ℕ) → List ℕ
suggestion None = codes "\n"
suggestion (Some name) = codes "; did you mean `" ++ name ++ codes "`?\n"

abbrev pub is_no_key : List ℕ → List ℕ
is_no_key place = plain_place place ++ codes " is no key of "

-- the place, the kind of its table, and the known key that is near, where there is one
abbrev pub unknown_words : List ℕ → TableKind → Option (List ℕ) → List ℕ
unknown_words place kind near = (is_no_key place ++ table_words kind) ++ suggestion near

-- the text says that about a place, with the nearest of the known keys
pub record SaysUnknown (place : List ℕ) (kind : TableKind) (text : List ℕ) : Type 0 where
  pub near : Option (List ℕ)
  pub is_nearest : IsNearestOf (key_in kind place) (known_keys kind) near
  pub words : text ≡ unknown_words place kind near

-- The words that follow a refusal's first line. Those of a key that is not known are fixed where its place is shown as it
-- stands. The words of other refusals are not.
abbrev pub SaysWhy : ScenarioFault → List ℕ → Type 0
SaysWhy Toml words = ⊤
SaysWhy (UnknownKey place kind) words = is_plain_text place ≡ true → SaysUnknown place kind words
SaysWhy (Missing place) words = ⊤
SaysWhy (Range place found wanted) words = ⊤
SaysWhy (UnknownName place name kind) words = ⊤
SaysWhy (Repeated place) words = ⊤
SaysWhy NoMemory words = ⊤
SaysWhy (Params fault) words = ⊤
