-- Counters that are raised and decay, in whole millionths.
use Rattle.std.specs.Prelude.{ℕ, zero, suc, ◌+◌, ◌-◌, min, nat_lt, if◌then◌else◌}
use Rattle.gs_score.specs.Millionths.{scaled}
use Rattle.gs_score.specs.declared.counter.Decay.{Decay}

-- the most that a counter holds
abbrev pub most_counted : ℕ
most_counted = 1_000_000_000_000

-- one step of decay: what the factor leaves, and 0 where that is below the floor
abbrev pub decay_step : Decay → ℕ → ℕ
decay_step d x = if nat_lt (scaled d.factor x) d.floor then 0 else scaled d.factor x

-- n steps of decay
abbrev pub decayed : Decay → ℕ → ℕ → ℕ
decayed d zero x = x
decayed d (suc n) x = decayed d n (decay_step d x)

-- an amount is added, up to the cap
abbrev pub raised : ℕ → ℕ → ℕ → ℕ
raised cap by x = min (x + by) cap

-- what is stored for a counter: a value, and the number of decays up to which it was decayed
pub record Stored : Type 0 where
  pub value : ℕ
  pub decays : ℕ

-- its value after a number of decays: the missing steps are applied
abbrev pub read_at : Decay → ℕ → Stored → ℕ
read_at d decays c = decayed d (decays - c.decays) c.value
