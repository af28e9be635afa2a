-- From when on neighbours may be grafted, after one more is noted.
use Rattle.std.proofs.Common.{◌≡◌, Bool, true, false, cond, List, Option, Some, refl, ap, ◌∙◌}
use Rattle.std.specs.Prelude.{if◌then◌else◌}
use Rattle.std.specs.Option.{unwrap_or}
use Rattle.std.specs.Map.{lookup}
use Rattle.gs_base.specs.declared.names.PeerNo.{PeerNo}
use Rattle.gs_base.specs.declared.names.Millis.{Millis}
use Rattle.gs_base.specs.Names.{same_peer}
use Rattle.gs_mesh.specs.Backoffs.{until}

until_if : (same : Bool) (m : Millis) (o : Option Millis) → unwrap_or (cond same (Some m) o) (record { 0 = 0 }) ≡ (if same then m else unwrap_or o (record { 0 = 0 }))
until_if true m o = refl
until_if false m o = refl

pub noted : (old new : List (PeerNo × Millis)) (p : PeerNo) (m : Millis)
    → ((q : PeerNo) → lookup (same_peer q) new ≡ cond (same_peer p q) (Some m) (lookup (same_peer q) old))
    → (q : PeerNo) → until new q ≡ (if same_peer p q then m else until old q)
noted old new p m puts q =
    ap (λ (o : Option Millis). unwrap_or o (record { 0 = 0 })) (puts q) ∙ until_if (same_peer p q) m (lookup (same_peer q) old)
