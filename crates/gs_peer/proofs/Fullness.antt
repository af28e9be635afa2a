-- Of whom all is taken, and for whom nothing waits.
use Rattle.std.proofs.Common.{◌≡◌, ◌⊎◌, ⊎_elim, ℕ, zero, suc, ◌+◌, ◌≤◌, ◌<◌, Bool, true, false, List, [], ◌∷◌, length, get_or, refl, sym, ap, ◌∙◌, true≢false, arith}
use Rattle.std.specs.Prelude.{◌&&◌}
use Rattle.std.proofs.lemmas.Bool.{cases_lt, eqb-true}
use Rattle.std.proofs.lemmas.List.{nil_from_length}
use Rattle.gs_peer.specs.declared.outboxes.Outboxes.{Outboxes}
use Rattle.gs_peer.specs.declared.phase.Phase.{Phase}
use Rattle.gs_peer.specs.declared.phase.Phase.TheVariants.{Playing, Closing}
use Rattle.gs_peer.specs.declared.running.Running.{Running}
use Rattle.gs_peer.specs.Inboxes.{InboxView, is_full}
use Rattle.gs_peer.specs.Moves.{are_full, are_silent, is_closing, is_full_at, is_over, is_silent}
use Rattle.gs_peer.specs.Outboxes.{waiting}
use Rattle.gs_peer.specs.Running.{AllFull, AllSilent, IsOver}

-- ---- both of two

pub left_true : (a b : Bool) → (a && b) ≡ true → a ≡ true
left_true true b h = refl
left_true false b h = absurd (true≢false (sym h))

pub right_true : (a b : Bool) → (a && b) ≡ true → b ≡ true
right_true true b h = h
right_true false b h = absurd (true≢false (sym h))

-- ---- one of them

both_false : (b : Bool) → (b && false) ≡ false
both_false true = refl
both_false false = refl

-- where not all is taken of one, it isn't of all
pub not_all : (xs : List InboxView) (k : ℕ) → is_full_at xs k ≡ false → are_full xs ≡ false
not_all [] zero h = absurd (true≢false h)
not_all [] (suc k) h = absurd (true≢false h)
not_all (x ∷ xs) zero h = ap (λ (b : Bool). b && are_full xs) h
not_all (x ∷ xs) (suc k) h = ap (λ (b : Bool). is_full x && b) (not_all xs k h) ∙ both_false (is_full x)

pub full_there : (xs : List InboxView) (place : ℕ) (x : InboxView) (b : Bool) → place < length xs → x ≡ get_or xs place x → is_full x ≡ b → is_full_at xs place ≡ b
full_there [] place x b below there is = absurd (omega (arith, below))
full_there (y ∷ xs) zero x b below there is = sym (ap is_full there) ∙ is
full_there (y ∷ xs) (suc place) x b below there is = full_there xs place x b (omega (arith, below)) there is

-- one more was looked at
pub full_more : (xs : List InboxView) (from place : ℕ) (x : InboxView) → place < length xs → x ≡ get_or xs place x → is_full x ≡ true
    → ((k : ℕ) → from ≤ k → k < place → is_full_at xs k ≡ true)
    → (k : ℕ) → from ≤ k → k < place + 1 → is_full_at xs k ≡ true
full_more xs from place x below there is before k low high =
    let either : (k < place) ⊎ (place ≤ k) = cases_lt k place in
    ⊎_elim (λ h. before k low h)
    (λ h. let same : k ≡ place = omega (arith, h, high) in ap (is_full_at xs) same ∙ full_there xs place x true below there is)
    either

-- ---- all of them

-- where all is taken of each, it is at each place
pub all_there : (xs : List InboxView) (k : ℕ) → are_full xs ≡ true → is_full_at xs k ≡ true
all_there xs k all = by (is_full_at xs k) refl
  where
    by : (b : Bool) → is_full_at xs k ≡ b → is_full_at xs k ≡ true
    by true is = is
    by false is = absurd (true≢false (sym all ∙ not_all xs k is))

pub each_full : (xs : List InboxView) → are_full xs ≡ true → AllFull xs
each_full [] h = tt
each_full (x ∷ xs) h = (left_true (is_full x) (are_full xs) h, each_full xs (right_true (is_full x) (are_full xs) h))

each_silent : (out : Outboxes) (xs : List InboxView) → are_silent out xs ≡ true → AllSilent out xs
each_silent out [] h = tt
each_silent out (x ∷ xs) h = (
  nil_from_length (waiting out x.peer) (eqb-true (length (waiting out x.peer)) 0 (left_true (is_silent out x.peer) (are_silent out xs) h)),
  each_silent out xs (right_true (is_silent out x.peer) (are_silent out xs) h),
)

closes : (phase : Phase) → is_closing phase ≡ true → phase ≡ Closing
closes (Playing r) h = absurd (true≢false (sym h))
closes Closing h = refl

-- a life that is over is
pub over_is : {G S : Type 0} (t : Running G S) → is_over t ≡ true → IsOver t
over_is t h =
    let full : Bool = are_full t.player.inboxes.items in
    let silent : Bool = are_silent t.outboxes t.player.inboxes.items in
    let both : (full && silent) ≡ true = right_true (is_closing t.phase) (full && silent) h in
    record {
      phase = closes t.phase (left_true (is_closing t.phase) (full && silent) h);
      full = each_full t.player.inboxes.items (left_true full silent both);
      silent = each_silent t.outboxes t.player.inboxes.items (right_true full silent both);
    }
