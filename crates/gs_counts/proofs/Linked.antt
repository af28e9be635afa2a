-- One more amount in the row of a link.
use Rattle.std.proofs.Common.{◌≡◌, ℕ, Bool, true, false, cond, if◌then◌else◌, List, Option, Some, refl, sym, ap, ap₂, ◌∙◌}
use Rattle.std.specs.Prelude.{◌&&◌, unwrap_or}
use Rattle.std.specs.Map.{lookup}
use Rattle.gs_base.specs.declared.names.PeerNo.{PeerNo}
use Rattle.gs_base.specs.Names.{same_peer}
use Rattle.gs_rules.proofs.Members.{one_peer}
use Rattle.gs_counts.specs.declared.counts.Counts.{Counts}
use Rattle.gs_counts.specs.declared.kind.Kind.{Kind}
use Rattle.gs_counts.specs.Rows.{counted, no_counts}
use Rattle.gs_counts.specs.Standing.{goes_over}

abbrev Link : Type 0
Link = PeerNo × PeerNo

abbrev look : PeerNo → PeerNo → List (Link × Counts) → Option Counts
look p q es = lookup (λ (link : Link). same_peer p link.0 && same_peer q link.1) es

both_first : (a b : Bool) → (a && b) ≡ true → a ≡ true
both_first true b both = refl
both_first false b both = both

both_second : (a b : Bool) → (a && b) ≡ true → b ≡ true
both_second true b both = both
both_second false b both = absurd cc

pub added_over : (old new : List (Link × Counts)) (link : Link) (k : Kind) (n : ℕ) (was : Option Counts) (w : Counts) (p q : PeerNo)
    → look link.0 link.1 old ≡ was
    → w ≡ counted (unwrap_or was no_counts) k n
    → look p q new ≡ cond (same_peer link.0 p && same_peer link.1 q) (Some w) (look p q old)
    → unwrap_or (look p q new) no_counts ≡ (if goes_over p q (Some link) then counted (unwrap_or (look p q old) no_counts) k n else unwrap_or (look p q old) no_counts)
added_over old new link k n was w p q found is updates =
    ap (λ (o : Option Counts). unwrap_or o no_counts) updates ∙ by (same_peer link.0 p && same_peer link.1 q) refl
  where
    by : (b : Bool) → (same_peer link.0 p && same_peer link.1 q) ≡ b → unwrap_or (cond b (Some w) (look p q old)) no_counts ≡ (if b then counted (unwrap_or (look p q old) no_counts) k n else unwrap_or (look p q old) no_counts)
    by true both =
        let one = one_peer link.0 p (both_first (same_peer link.0 p) (same_peer link.1 q) both) in
        let other = one_peer link.1 q (both_second (same_peer link.0 p) (same_peer link.1 q) both) in
        is ∙ ap (λ (o : Option Counts). counted (unwrap_or o no_counts) k n) (sym found ∙ ap₂ (λ (a b : PeerNo). look a b old) one other)
    by false both = refl
