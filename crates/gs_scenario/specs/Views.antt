-- The places, tables and values of the code, as the definitions see them.
use denote.Ref.{Bor}
use Rattle.std.specs.Prelude.{ℕ, ◌++◌, codes, List, [], Result, option_map, unwrap_or}
use Rattle.toml.specs.Data.{Data, no_members}
use Rattle.toml.specs.declared.value.Value.{Value}
use Rattle.toml.specs.View.{view, table_view, items_view}
use Rattle.gs_scenario.specs.declared.fault.ScenarioFault.{ScenarioFault}
use Rattle.gs_scenario.specs.declared.scenario.field.Field.{Field}
use Rattle.gs_scenario.specs.declared.scenario.place.Element.{Element}
use Rattle.gs_scenario.specs.declared.scenario.place.Path.{Path}
use Rattle.gs_scenario.specs.declared.scenario.place.Path.TheVariants as paths
use Rattle.gs_scenario.specs.declared.scenario.place.Place.{Place}
use Rattle.gs_scenario.specs.declared.scenario.place.Place.TheVariants as places
use Rattle.gs_scenario.specs.declared.scenario.section.Section as code
use Rattle.gs_scenario.specs.declared.scenario.top.Top as code_top
use Rattle.gs_scenario.specs.Keys.{Kind, Key, Section, read_key}
use Rattle.gs_scenario.specs.Kinds.{element}
use Rattle.gs_scenario.specs.PlanOf.{Top}
use Rattle.gs_scenario.specs.Refusal.{GivesSame}

-- the text of a place
abbrev pub element_text : Element → List ℕ
element_text e = element e.list.now e.index

abbrev pub path_text : Path → List ℕ
path_text paths.Top = []
path_text (paths.Table key) = key.now ++ codes "."
path_text (paths.Within e) = element_text e ++ codes "."

abbrev pub place_text : Place → List ℕ
place_text (places.Key path key) = path_text path ++ key.now
place_text (places.Element e) = element_text e

-- a table at its place
abbrev pub section_of : code.Section → Section
section_of section = record { path = path_text section.path; members = table_view section.table.now }

-- how a kind reads a value
abbrev pub read_as : {A : Type 0} → Kind A → Field → Result A ScenarioFault
read_as kind field = kind (place_text field.place) (view field.value.now)

-- what a table holds at a key
abbrev pub held_at : {A : Type 0} → Key A → code.Section → Result A ScenarioFault
held_at key section = read_key (section_of section) key

-- what the top table holds
abbrev pub top_view : code_top.Top → Top
top_view top = record {
  round_ms = top.round_ms;
  rounds = top.rounds;
  workers = top.workers;
  capacity = top.capacity;
  seed = top.seed;
  params = unwrap_or (option_map (λ table. table_view table.now) top.params) no_members;
  topics = items_view top.topics.now;
  peers = items_view top.peers.now;
  dials = items_view top.dials.now;
  apps = items_view top.apps.now;
  explicit = items_view top.explicit.now;
  script = items_view top.script.now;
}

-- a function gives for a value, after the values that were read before it, what a definition gives, unless it is out of memory
abbrev pub ReadsAs : {A : Type 0} → (Bor (List A) → Bor Value → Result A ScenarioFault → Type 0)
    → (List A → Data → Result A ScenarioFault) → Type 0
ReadsAs {A} may_say reads = (earlier : Bor (List A)) (value : Bor Value) (said : Result A ScenarioFault)
    → may_say earlier value said → GivesSame said (reads earlier.now (view value.now))
