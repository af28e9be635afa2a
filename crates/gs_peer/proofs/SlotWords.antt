-- Slots close a link where what they say closes it.
use Rattle.std.proofs.Common.{◌≡◌, ℕ, List, [], ◌∷◌, ◌++◌, map, refl, ◌∙◌}
use Rattle.gs_base.specs.Tokens.{Byte, Said}
use Rattle.gs_link.specs.declared.item.Slot.{Slot}
use Rattle.gs_link.specs.declared.item.Slot.TheVariants.{Piece, Round, Close}
use Rattle.gs_link.specs.Flat.{flat}
use Rattle.gs_link.specs.Runs.{closes as slots_close}
use Rattle.gs_rules.specs.Hearing.{closes}

closes_bytes : (bytes : List ℕ) (w : Said) → closes (map Byte bytes ++ w) ≡ closes w
closes_bytes [] w = refl
closes_bytes (b ∷ bytes) w = closes_bytes bytes w

-- a list of slots closes where what it says does
pub closes_flat : (xs : List Slot) → closes (flat xs) ≡ slots_close xs
closes_flat [] = refl
closes_flat (Piece bytes ∷ xs) = closes_bytes bytes (flat xs) ∙ closes_flat xs
closes_flat (Round r ∷ xs) = closes_flat xs
closes_flat (Close ∷ xs) = refl
