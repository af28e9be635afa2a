-- The options that the arguments of a command give, by a table of those that it takes.
use Rattle.std.specs.Prelude.{ℕ, Bool, true, false, if◌then◌else◌, nat_eq, nat_lt, ◌&&◌, List, [], ◌∷◌, ◌++◌, length, map, Option, Some, None, option_map, is_some, suc}
use Rattle.std.specs.Cmp.Lexicographic.{pointwise}
use Rattle.std.specs.Bool.{beq}
use Rattle.std.specs.List.{list_any}
use Rattle.gs_program.specs.declared.options.GivenOption.{GivenOption}
use Rattle.gs_program.specs.declared.options.OptionRule.{OptionRule}
use Rattle.gs_program.specs.declared.options.Options.{Options}

-- an option that a command takes: its name, whether the next argument is its value, and how often it may come
pub record Rule : Type 0 where
  pub name : List ℕ
  pub has_value : Bool
  pub most : ℕ

-- an option that may come once, by itself or with a value
abbrev pub once : List ℕ → Rule
once name = record { name = name; has_value = false; most = 1 }

abbrev pub once_with_value : List ℕ → Rule
once_with_value name = record { name = name; has_value = true; most = 1 }

-- an option that was given, with its value if it has one
pub record Given : Type 0 where
  pub name : List ℕ
  pub value : Option (List ℕ)

abbrev pub rule_of : OptionRule → Rule
rule_of r = record { name = r.name.now; has_value = r.has_value; most = r.most }

abbrev pub given_of : GivenOption → Given
given_of g = record { name = g.name.now; value = option_map (λ t. t.now) g.value }

abbrev pub options_of : Options → List Given
options_of options = map given_of options.given.items

-- no command is given more options than this
abbrev pub most_given : ℕ
most_given = 24

abbrev pub same : List ℕ → List ℕ → Bool
same a b = pointwise nat_eq a b

-- whether the argument after this name is its value
abbrev pub takes_value : List Rule → List ℕ → Bool
takes_value rules name = list_any (λ r. r.has_value && same r.name name) rules

-- how often an option may come: never where no rule has its name
abbrev pub most_for : List Rule → List ℕ → (has_value : Bool) → ℕ
most_for [] name b = 0
most_for (r ∷ rules) name b = if same r.name name && beq r.has_value b then r.most else most_for rules name b

-- how often an option was given
abbrev pub times : List Given → List ℕ → ℕ
times [] name = 0
times (g ∷ given) name = if same g.name name then suc (times given name) else times given name

-- with one more option: None where it may not come once more
abbrev pub with_given : List Rule → List Given → Given → Option (List Given)
with_given rules given g =
    if nat_lt (times given g.name) (most_for rules g.name (is_some g.value)) && nat_lt (length given) most_given
    then Some (given ++ g ∷ [])
    else None

abbrev pub by_itself : List ℕ → Given
by_itself name = record { name = name; value = None }

abbrev pub with_its_value : List ℕ → List ℕ → Given
with_its_value name value = record { name = name; value = Some value }

-- with these further arguments: None where one is no option, lacks its value, or comes too often
abbrev pub given_from : List Rule → Option (List Given) → List (List ℕ) → Option (List Given)
given_from rules None arguments = None
given_from rules (Some given) [] = Some given
given_from rules (Some given) (name ∷ []) = with_given rules given (by_itself name)
given_from rules (Some given) (name ∷ value ∷ more) =
    if takes_value rules name
    then given_from rules (with_given rules given (with_its_value name value)) more
    else given_from rules (with_given rules given (by_itself name)) (value ∷ more)

-- the options that arguments give, in order; None where they are wrong
abbrev pub options_given : List Rule → List (List ℕ) → Option (List Given)
options_given rules arguments = given_from rules (Some []) arguments

-- whether an option was given
abbrev pub has_option : List Given → List ℕ → Bool
has_option given name = list_any (λ g. same g.name name) given

-- the value of the first option with this name
abbrev pub value_of : List Given → List ℕ → Option (List ℕ)
value_of [] name = None
value_of (g ∷ given) name = if same g.name name then g.value else value_of given name
