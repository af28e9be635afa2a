-- How setting a value ends.
use Rattle.std.specs.Prelude.{◌≡◌, ◌≢◌, Option, Some, None, Result, MatchResult}
use Rattle.gs_edit.specs.declared.places.PlaceFault.{PlaceFault}
use Rattle.gs_edit.specs.declared.places.PlaceFault.TheVariants.{NoMemory}

-- What was set is what was expected. Where nothing was set, the fault is out of memory, or nothing was expected.
abbrev pub Sets : {A B : Type 0} → (A → B) → Result A PlaceFault → Option B → Type 0
Sets seen r expected = MatchResult r (λ a. expected ≡ Some (seen a)) (λ fault. fault ≢ NoMemory → expected ≡ None)
