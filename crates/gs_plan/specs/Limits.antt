-- How large a scenario may be.
use Rattle.std.specs.Prelude.{ℕ}
use Rattle.gs_plan.specs.declared.limits.Limits.{Limits}
use Rattle.gs_plan.specs.declared.limits.Limits.TheVariants.{Standard, Large}

-- the most peers of a plan
abbrev pub most_peers : Limits → ℕ
most_peers Standard = 64
most_peers Large = 4_096

-- the longest text of a scenario, in bytes
abbrev pub longest_input : Limits → ℕ
longest_input Standard = 8_388_608
longest_input Large = 67_108_864
