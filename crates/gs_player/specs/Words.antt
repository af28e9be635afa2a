-- What a neighbour's words hold after a round.
use Rattle.std.specs.Prelude.{◌≡◌, ℕ, Bool, true, not}
use Rattle.gs_base.specs.Tokens.{Said}
use Rattle.gs_rules.specs.Hearing.{after}
use Rattle.gs_player.specs.Ended.{close_if, whole}

-- The first r rounds have ended in it. After them only a close is said, and only where it is closed.
pub record StandsAfter (r : ℕ) (w : Said) (is_open : Bool) : Type 0 where
  pub ended : whole r w ≡ true
  pub rest : after r w ≡ close_if (not is_open)
